-- Document 01, "Wet slips": what the listings of IBANs and of references answer. No place is told.
use Rattle.std.specs.Prelude.{ℕ, Bool, cond, ◌&&◌, List, [], eqb, leb, length, get_or, drop, Option, Some, None, Result, Err}
use Rattle.refusal.specs.declared.Refusal.{Refusal}
use Rattle.refusal.specs.Refusal.{none}
use Rattle.refusal.specs.declared.Refusal.TheVariants.{Size, Byte, Form, Model, Marks}
use Rattle.text.specs.Bytes.{all_of, marks}
use Rattle.classes.specs.declared.Class.TheVariants.{WetAccount, WetReference}
use Rattle.account.specs.Answers.{is_iban}
use Rattle.models.specs.declared.Model as declared
use Rattle.model_text.specs.Texts.{model_number}
use Rattle.models.specs.Models.{model_of}
use Rattle.reference.specs.Answers.{obeys}
use Rattle.fillings.specs.Fillings.{fillings}
use Rattle.fillings.specs.Answers.{listed_in_room}
use Rattle.fillings.specs.declared.Aim.{Aim}

-- ---------------------------------------------------------------------------
-- IBANs

-- "`HR` and then digits or `?`"
abbrev pub wet_iban : List ℕ → Bool
wet_iban s = eqb (get_or s 0 0) 72 && (eqb (get_or s 1 0) 82 && all_of WetAccount (drop 2 s))

-- 1 (not 21 bytes), 3, 16, 15
abbrev pub iban_listing : List ℕ → ℕ → Result ℕ Refusal
iban_listing s room =
    cond (eqb (length s) 21)
    (cond (wet_iban s)
    (cond (leb (marks s) 4) (listed_in_room (fillings is_iban s) room) (Err (Marks none)))
    (Err (Byte none)))
    (Err (Size none))

-- ---------------------------------------------------------------------------
-- References

-- what is listed under a model, by what was found of one filling
abbrev pub aim_from : declared.Model → Option ℕ → Aim
aim_from model (Some ends) = Aim.Reference model ends
aim_from model None = Aim.Unmendable

-- 7, then 15
abbrev pub model_listing : declared.Model → List ℕ → ℕ → Result ℕ Refusal
model_listing model s room = cond model.handled (listed_in_room (fillings (obeys model) s) room) (Err (Model none))

-- 5, then the rest
abbrev pub number_listing : Option ℕ → List ℕ → ℕ → Result ℕ Refusal
number_listing (Some n) s room = model_listing (model_of n) s room
number_listing None s room = Err (Form none)

-- the fillings that the model of a number accepts
abbrev pub number_fillings : Option ℕ → List ℕ → List ℕ
number_fillings (Some n) s = fillings (obeys (model_of n)) s
number_fillings None s = []

-- 1 (above 22 bytes), 3, 16, then 5, 7, 15
abbrev pub reference_listing : List ℕ → List ℕ → ℕ → Result ℕ Refusal
reference_listing m s room =
    cond (leb (length s) 22)
    (cond (all_of WetReference s)
    (cond (leb (marks s) 4) (number_listing (model_number m) s room) (Err (Marks none)))
    (Err (Byte none)))
    (Err (Size none))

abbrev pub reference_fillings : List ℕ → List ℕ → List ℕ
reference_fillings m s = number_fillings (model_number m) s
