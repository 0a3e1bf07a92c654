-- What the program `wagefile` prints. Document 01, "Wet slips": "The file program reads eight digits and LF, the day (else 11), then a wage
-- file line by line, and writes `accepted 5 lines 1 groups 2 orders` or `refused 6 line 2 field 1 byte 0`".
use Rattle.std.specs.Prelude.{ℕ, cond, ◌&&◌, List, ◌++◌, eqb, length, get_or, take, drop, Result, Ok, Err}
use Rattle.refusal.specs.declared.Refusal.{Refusal}
use Rattle.condition.specs.declared.Counts.{Counts}
use Rattle.refusal.specs.Basics.{spelt}
use Rattle.classes.specs.declared.Class.TheVariants.{Digits}
use Rattle.text.specs.Bytes.{all_of}
use Rattle.text.specs.Digits.{digits_of, value_of}
use Rattle.wage_file.specs.File.{file_answer}
use Rattle.printed.specs.Printed.{counted, refused_text}

-- the day that the first line tells; 0, which is no date, if it is not eight digits and a line feed
unfoldable pub day_told : List ℕ → ℕ
day_told s = cond (eqb (length s) 9 && (eqb (get_or s 8 0) 10 && all_of Digits (take 8 s))) (value_of (digits_of (take 8 s))) 0

-- in front of the lines, of the groups, of the orders; and the end of the line
abbrev pub accepted_word : List ℕ
accepted_word = spelt "accepted "

abbrev pub lines_word : List ℕ
lines_word = spelt " lines "

abbrev pub groups_word : List ℕ
groups_word = spelt " groups "

abbrev pub orders_word : List ℕ
orders_word = spelt " orders\n"

-- one line
unfoldable pub ending_printed : Result Counts Refusal → List ℕ
ending_printed (Ok n) = counted accepted_word n.lines ++ (counted lines_word n.tally.groups ++ (counted groups_word n.tally.orders ++ orders_word))
ending_printed (Err r) = refused_text r

-- the program's input: nine bytes that tell the day, and a wage file
abbrev pub file_printed : List ℕ → List ℕ
file_printed s = ending_printed (file_answer (day_told (take 9 s)) (drop 9 s))
