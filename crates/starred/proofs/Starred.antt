-- Document 01, "Both sides of the line": the starred cases, and with them those of document 02, W4, as a single table under a single claim,
-- proved about the definitions by computing them.
-- Assumes nothing.
use Rattle.refusal.proofs.Basics.{◌≡◌, refl, ℕ, List, [], ◌∷◌, ◌++◌, Bool, true, ◌&&◌, eqb}
use Rattle.refusal.specs.Refusal.{answer_number}
use Rattle.verdict.specs.Verdict.{Verdict, answer_in}
use Rattle.text.specs.Bytes.{first_bad, bytes_verdict, all_of, count_of, same}
use Rattle.text.specs.Digits.{digits_of, value_from, digits_text}
use Rattle.text.specs.Split.{split, joined}
use Rattle.check_digits.specs.CheckDigit.{weighted, carried_over, check_digit, passes}
use Rattle.account.specs.Account.{iban_passes, oib_passes}
use Rattle.account.specs.Answers.{iban_verdict, oib_verdict}
use Rattle.codes.specs.Codes.{first_in, code_place, is_code}
use Rattle.models.specs.Every.{every}
use Rattle.models.specs.Models.{model_of, special_of}
use Rattle.parts.specs.Parts.{parts_of, parts_fit, formed}
use Rattle.part_contents.specs.Contents.{holds as part_holds, first_holds}
use Rattle.groups.specs.Groups.{group_right}
use Rattle.reference.specs.Answers.{obeys, reference_verdict}
use Rattle.filling.specs.Filling.{fill}
use Rattle.fillings.specs.Fillings.{among, fillings}
use Rattle.characters.specs.Characters.{first_wrong, characters}
use Rattle.slip_fields.specs.Fields.{field_verdict}
use Rattle.slip.specs.Slip.{fields_answer, slip_answer_in, slip_answer}
use Rattle.text.specs.Lines.{join_lines}
use Rattle.slip_writer.specs.Writer.{slip_text}

-- ---------------------------------------------------------------------------
-- Questions, as the document prints them

-- `HR` and the digits of a number
unfoldable HR : ℕ → ℕ → List ℕ
HR n k = 72 ∷ (82 ∷ digits_text n k)

-- texts joined by hyphens
unfoldable dashed : List (List ℕ) → List ℕ
dashed [] = []
dashed (p ∷ []) = p
dashed (p ∷ (q ∷ ps)) = p ++ (45 ∷ dashed (q ∷ ps))

-- ---------------------------------------------------------------------------
-- 000's printed slip, by the last part of its reference

-- `ŽELJKO SENEKOVIĆ`
abbrev name : List ℕ
name = 197 ∷ (189 ∷ (69 ∷ (76 ∷ (74 ∷ (75 ∷ (79 ∷ (32 ∷ (83 ∷ (69 ∷ (78 ∷ (69 ∷ (75 ∷ (79 ∷ (86 ∷ (73 ∷ (196 ∷ (134 ∷ [])))))))))))))))))

-- `IVANEČKA ULICA 125`
abbrev street : List ℕ
street = 73 ∷ (86 ∷ (65 ∷ (78 ∷ (69 ∷ (196 ∷ (140 ∷ (75 ∷ (65 ∷ (32 ∷ (85 ∷ (76 ∷ (73 ∷ (67 ∷ (65 ∷ (32 ∷ (49 ∷ (50 ∷ (53 ∷ []))))))))))))))))))

-- `42000 VARAŽDIN`
abbrev town : List ℕ
town = 52 ∷ (50 ∷ (48 ∷ (48 ∷ (48 ∷ (32 ∷ (86 ∷ (65 ∷ (82 ∷ (65 ∷ (197 ∷ (189 ∷ (68 ∷ (73 ∷ (78 ∷ []))))))))))))))

-- `2DBK d.d.`
abbrev payee : List ℕ
payee = 50 ∷ (68 ∷ (66 ∷ (75 ∷ (32 ∷ (100 ∷ (46 ∷ (100 ∷ (46 ∷ []))))))))

-- `ALKARSKI PROLAZ 13B`
abbrev payee_street : List ℕ
payee_street = 65 ∷ (76 ∷ (75 ∷ (65 ∷ (82 ∷ (83 ∷ (75 ∷ (73 ∷ (32 ∷ (80 ∷ (82 ∷ (79 ∷ (76 ∷ (65 ∷ (90 ∷ (32 ∷ (49 ∷ (51 ∷ (66 ∷ []))))))))))))))))))

-- `21230 SINJ`
abbrev payee_town : List ℕ
payee_town = 50 ∷ (49 ∷ (50 ∷ (51 ∷ (48 ∷ (32 ∷ (83 ∷ (73 ∷ (78 ∷ (74 ∷ [])))))))))

-- `Troškovi za 1. mjesec`
abbrev description : List ℕ
description = 84 ∷ (114 ∷ (111 ∷ (197 ∷ (161 ∷ (107 ∷ (111 ∷ (118 ∷ (105 ∷ (32 ∷ (122 ∷ (97 ∷ (32 ∷ (49 ∷ (46 ∷ (32 ∷ (109 ∷ (106 ∷ (101 ∷ (115 ∷ (101 ∷ (99 ∷ [])))))))))))))))))))))

-- `COST`
abbrev purpose : List ℕ
purpose = 67 ∷ (79 ∷ (83 ∷ (84 ∷ [])))

unfoldable printed : ℕ → List ℕ
printed k =
    slip_text 12355
    (name ∷ (street ∷ (town ∷ (payee ∷ (payee_street ∷ (payee_town
    ∷ (HR 19 1210010051863000160
    ∷ (HR 2 1 ∷ (dashed (digits_text 4 7269 ∷ (digits_text 11 68499637766 ∷ (digits_text 5 k ∷ [])))
    ∷ (purpose ∷ (description ∷ [])))))))))))

-- ---------------------------------------------------------------------------
-- Cases

-- a question, with the number that answers it: 0 is acceptance
data Case : Type 0 where
  iban : List ℕ → ℕ → Case
  oib : List ℕ → ℕ → Case
  reference : List ℕ → List (List ℕ) → ℕ → Case
  slip : List ℕ → ℕ → Case
  -- a model's number, a wet text, and the numbers that are listed
  listing : ℕ → List (List ℕ) → List ℕ → Case

-- a verdict's number, as an answer's
abbrev told : Verdict → ℕ
told v = answer_number (answer_in 0 v)

-- the answer is the expected one
unfoldable holds : Case → Bool
holds (iban s n) = eqb (told (iban_verdict s)) n
holds (oib s n) = eqb (told (oib_verdict s)) n
holds (reference m ps n) = eqb (told (reference_verdict m (dashed ps))) n
holds (slip s n) = eqb (answer_number (slip_answer s)) n
holds (listing k ps ns) = same ns (fillings (obeys (model_of k)) (dashed ps))

unfoldable all_hold : List Case → Bool
all_hold [] = true
all_hold (c ∷ cs) = holds c && all_hold cs

-- ---------------------------------------------------------------------------
-- The table

unfoldable starred : List Case
starred =
    iban (HR 19 1210010051863000160) 0
    ∷ (iban (HR 19 7023400091510946338) 0
    ∷ (iban (HR 19 1310010051863000160) 6
    ∷ (oib (digits_text 11 12345678903) 0
    ∷ (oib (digits_text 11 12345678904) 6
    ∷ (reference (HR 2 69) (digits_text 5 40002 ∷ (digits_text 11 12345678903 ∷ (digits_text 3 100 ∷ []))) 0
    ∷ (reference (HR 2 69) (digits_text 5 40003 ∷ (digits_text 11 12345678903 ∷ [])) 9
    ∷ (reference (HR 2 69) (digits_text 5 40002 ∷ []) 8
    ∷ (reference (HR 2 1) (digits_text 4 7269 ∷ (digits_text 11 68499637766 ∷ (digits_text 5 19 ∷ []))) 9
    ∷ (reference (HR 2 1) (digits_text 4 7269 ∷ (digits_text 11 68499637766 ∷ (digits_text 5 11 ∷ []))) 0
    ∷ (reference (HR 2 1) (digits_text 1 0 ∷ []) 0
    ∷ (reference (HR 2 1) (digits_text 1 1 ∷ []) 9
    ∷ (reference (HR 2 99) [] 0
    ∷ (reference (HR 2 0) [] 8
    ∷ (slip (printed 19) 9
    ∷ (slip (printed 11) 0
    -- W4: `40003-12345678904-999`, `40002-12345678903-10`, `40002-12345678903-101`, and `40002-12345678903-10?`, which lists 0 alone
    ∷ (reference (HR 2 69) (digits_text 5 40003 ∷ (digits_text 11 12345678904 ∷ (digits_text 3 999 ∷ []))) 5
    ∷ (reference (HR 2 69) (digits_text 5 40002 ∷ (digits_text 11 12345678903 ∷ (digits_text 2 10 ∷ []))) 8
    ∷ (reference (HR 2 69) (digits_text 5 40002 ∷ (digits_text 11 12345678903 ∷ (digits_text 3 101 ∷ []))) 5
    ∷ (listing 69 (digits_text 5 40002 ∷ (digits_text 11 12345678903 ∷ ((49 ∷ (48 ∷ (63 ∷ []))) ∷ []))) (0 ∷ [])
    ∷ [])))))))))))))))))))

-- the claim
starred_cases_hold : all_hold starred ≡ true
unfolding starred all_hold holds HR dashed digits_text first_bad bytes_verdict all_of digits_of value_from split weighted carried_over check_digit passes iban_passes oib_passes model_of special_of every first_in code_place is_code part_holds first_holds parts_of parts_fit formed joined group_right fill among fillings printed slip_text join_lines first_wrong characters field_verdict count_of fields_answer slip_answer_in
starred_cases_hold = refl
