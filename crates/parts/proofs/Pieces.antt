-- The parts of a text: the text is its parts with hyphens between them, and those of a formed text are digits, not empty, and end below 1024.
-- Assumes nothing.
use Rattle.refusal.proofs.Basics.{◌≡◌, refl, sym, ap, ◌∙◌, arith, ℕ, zero, suc, ◌+◌, ◌*◌, ◌≤◌, ◌<◌, length, get_or, eqb-true, ltb-true, leb-true, List, [], ◌∷◌, ◌++◌, Bool, true, false, cond, ◌&&◌, false≢true, eqb, leb, ltb, both_true}
use mir.Syntax.{w8}
use mir.Val.{Fits}
use Rattle.classes.specs.Classes.{is_digit}
use Rattle.text.specs.Bytes.{all_of}
use Rattle.classes.specs.declared.Class.TheVariants.{Digits, Reference}
use Rattle.text.specs.Split.{longer, split}
use Rattle.models.specs.declared.Model.{Model}
use Rattle.parts.specs.Parts.{length_fits, parts_of, parts_fit, formed}

-- ---------------------------------------------------------------------------
-- A text and its parts

-- a text has a first part
pub first_part : (s : List ℕ) → (p : List ℕ) × (ps : List (List ℕ)) × (split 45 s ≡ p ∷ ps)
unfolding split
first_part [] = ([], [], refl)
first_part (b ∷ s) = go (eqb b 45) (first_part s)
  where
    go : (h : Bool) → (p : List ℕ) × (ps : List (List ℕ)) × (split 45 s ≡ p ∷ ps) → (p : List ℕ) × (ps : List (List ℕ)) × (cond h ([] ∷ split 45 s) (longer b (split 45 s)) ≡ p ∷ ps)
    go true w = ([], split 45 s, refl)
    go false w = (b ∷ w.0, w.1, ap (longer b) w.2)

-- parts with a hyphen between each two
unfoldable pub bound : List (List ℕ) → List ℕ
bound [] = []
bound (p ∷ []) = p
bound (p ∷ (q ∷ ps)) = p ++ (45 ∷ bound (q ∷ ps))

-- how many bytes parts have, with a hyphen behind each
unfoldable pub span_of : List (List ℕ) → ℕ
span_of [] = 0
span_of (p ∷ ps) = length p + 1 + span_of ps

bound_split : (s : List ℕ) → bound (split 45 s) ≡ s
unfolding split bound
bound_split [] = refl
bound_split (b ∷ s) = go (eqb b 45) refl (first_part s) (bound_split s)
  where
    more : (ps : List (List ℕ)) → bound (longer b ps) ≡ b ∷ bound ps
    more [] = refl
    more (p ∷ []) = refl
    more (p ∷ (q ∷ ps)) = refl

    go : (h : Bool) → eqb b 45 ≡ h → (p : List ℕ) × (ps : List (List ℕ)) × (split 45 s ≡ p ∷ ps) → bound (split 45 s) ≡ s → bound (cond h ([] ∷ split 45 s) (longer b (split 45 s))) ≡ b ∷ s
    go true e w ih = rw (eqb-true b 45 e, w.2) (ap (λ (l : List ℕ). 45 ∷ l) (ap bound (sym w.2) ∙ ih))
    go false e w ih = more (split 45 s) ∙ ap (λ (l : List ℕ). b ∷ l) ih

-- a text is its parts, with the hyphens
pub bound_parts : (s : List ℕ) → bound (parts_of s) ≡ s
unfolding parts_of bound
bound_parts [] = refl
bound_parts (b ∷ s) = bound_split (b ∷ s)

span_split : (s : List ℕ) → span_of (split 45 s) ≡ suc (length s)
unfolding split span_of
span_split [] = refl
span_split (b ∷ s) = go (eqb b 45) (split 45 s) (span_split s)
  where
    go : (h : Bool) (ps : List (List ℕ)) → span_of ps ≡ suc (length s) → span_of (cond h ([] ∷ ps) (longer b ps)) ≡ suc (suc (length s))
    go true ps ih = omega arith
    go false [] ih = absurd (omega arith)
    go false (p ∷ ps) ih = omega arith

-- so the parts of a short text end below 1024
pub short_span : (s : List ℕ) (at : ℕ) → at + length s < 1024 → at + span_of (split 45 s) ≤ 1024
short_span s at h = omega (arith, span_split s)

-- ---------------------------------------------------------------------------
-- Parts that fit

-- each part is digits, and not empty
abbrev pub Solid : List (List ℕ) → Type 0
Solid [] = Unit
Solid (p ∷ ps) = (0 < length p) × Solid ps

abbrev Digital : List (List ℕ) → Type 0
Digital [] = Unit
Digital (p ∷ ps) = (all_of Digits p ≡ true) × Digital ps

-- a part that fits is digits, not empty, no longer than the most, and those after it fit
fit_first : (l m : ℕ) (ls p : List ℕ) (ps : List (List ℕ)) → parts_fit (l ∷ (m ∷ ls)) (p ∷ ps) ≡ true → (all_of Digits p ≡ true) × (0 < length p) × (length p ≤ m) × (parts_fit ls ps ≡ true)
unfolding parts_fit
fit_first l m ls p ps e =
    let a = both_true (all_of Digits p) (length_fits l m (length p) && parts_fit ls ps) e in
    let b = both_true (length_fits l m (length p)) (parts_fit ls ps) a.1 in
    let c = both_true (ltb 0 (length p)) (leb l (length p) && leb (length p) m) b.0 in
    (a.0, ltb-true 0 (length p) c.0, leb-true (length p) m (both_true (leb l (length p)) (leb (length p) m) c.1).1, b.1)

-- each number is a byte's
abbrev pub Bytes : List ℕ → Type 0
Bytes xs = (i : ℕ) → Fits w8 (get_or xs i 0)

-- parts that fit are digits, not empty, and have at most 255 digits each
pub fit_solid : (ls : List ℕ) (ps : List (List ℕ)) → parts_fit ls ps ≡ true → Digital ps × (Solid ps × ((k : ℕ) → Bytes ls → length ls ≤ k + k → span_of ps ≤ 256 * k))
unfolding parts_fit span_of
fit_solid ls [] e = (tt, (tt, λ k b h. omega arith))
fit_solid [] (p ∷ ps) e = absurd (false≢true e)
fit_solid (l ∷ []) (p ∷ ps) e = absurd (false≢true e)
fit_solid (l ∷ (m ∷ ls)) (p ∷ ps) e =
    let w = fit_first l m ls p ps e in
    let r = fit_solid ls ps w.3 in
    ((w.0, r.0), ((w.1, r.1.0), go w.2 r.1.1))
  where
    go : length p ≤ m → ((k : ℕ) → Bytes ls → length ls ≤ k + k → span_of ps ≤ 256 * k) → (k : ℕ) → Bytes (l ∷ (m ∷ ls)) → suc (suc (length ls)) ≤ k + k → length p + 1 + span_of ps ≤ 256 * k
    go u r zero b h = absurd (omega arith)
    go u r (suc k) b h = omega (arith, (b 1).fits, r k (λ i. b (suc (suc i))) (omega arith))

-- the parts of a formed text fit
formed_fit : (model : Model) (s : List ℕ) → formed model s ≡ true → parts_fit model.lengths (parts_of s) ≡ true
unfolding formed
formed_fit model s e =
    let n = length (parts_of s) in
    let f = (both_true (leb model.fewest n) (leb n model.most && parts_fit model.lengths (parts_of s)) e).1 in
    (both_true (leb n model.most) (parts_fit model.lengths (parts_of s)) f).1

pub formed_solid : (model : Model) (s : List ℕ) → formed model s ≡ true → Solid (parts_of s)
formed_solid model s e = (fit_solid model.lengths (parts_of s) (formed_fit model s e)).1.0

-- a formed text has less than 1024 bytes
pub formed_short : (model : Model) (s : List ℕ) → Bytes model.lengths → length model.lengths ≤ 8 → formed model s ≡ true → length s < 1024
unfolding parts_of
formed_short model [] b h e = omega arith
formed_short model (c ∷ s) b h e = omega (arith, (fit_solid model.lengths (parts_of (c ∷ s)) (formed_fit model (c ∷ s) e)).1.1 4 b h, span_split (c ∷ s))

-- the byte at the front of the first part is a digit
digital_longer : (b : ℕ) (ps : List (List ℕ)) → Digital (longer b ps) → (is_digit b ≡ true) × Digital ps
unfolding all_of
digital_longer b [] h = ((both_true (is_digit b) true h.0).0, tt)
digital_longer b (p ∷ ps) h = let w = both_true (is_digit b) (all_of Digits p) h.0 in (w.0, (w.1, h.1))

digital_bytes : (s : List ℕ) → Digital (split 45 s) → all_of Reference s ≡ true
unfolding split all_of
digital_bytes [] h = refl
digital_bytes (b ∷ s) h = go (eqb b 45) refl h (digital_bytes s)
  where
    go : (t : Bool) → eqb b 45 ≡ t → Digital (cond t ([] ∷ split 45 s) (longer b (split 45 s))) → (Digital (split 45 s) → all_of Reference s ≡ true) → all_of Reference (b ∷ s) ≡ true
    go true e g f = rw (eqb-true b 45 e, f g.1)
    go false e g f = let w = digital_longer b (split 45 s) g in rw (w.0, f w.1)

-- and no byte but digits and hyphens
pub formed_bytes : (model : Model) (s : List ℕ) → formed model s ≡ true → all_of Reference s ≡ true
unfolding parts_of all_of
formed_bytes model [] e = refl
formed_bytes model (b ∷ s) e = digital_bytes (b ∷ s) (fit_solid model.lengths (split 45 (b ∷ s)) (formed_fit model (b ∷ s) e)).0
