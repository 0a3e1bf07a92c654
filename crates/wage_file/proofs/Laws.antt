-- Laws of the steps of a file's lines, from a place on, and of the pieces of two files joined. Assumes nothing.
use Rattle.refusal.proofs.Basics.{◌≡◌, refl, sym, ap, ◌∙◌, arith, ℕ, zero, suc, ◌%◌, ◌≤◌, length, take, drop, length-append, length-drop, List, [], ◌∷◌, ◌++◌, take-append-le, drop-append-le}
use Rattle.wage_line.specs.Pieces.{pieces_of, pieces}
use Rattle.wage_line.proofs.PieceLaws.{pieces_first}
use Rattle.condition.specs.declared.Judge.{Judge}
use Rattle.judge.specs.Judge.{stepped, steps}

module _ (j : Judge) (s : List ℕ) where
  -- the first line, then those behind it
  pub lines_on : (line rest : List ℕ) → pieces s ≡ line ∷ pieces rest → steps j (pieces s) ≡ steps (stepped j line) (pieces rest)
  unfolding steps
  lines_on line rest e = rw e

  -- at the end there are none
  pub lines_end : length s ≡ 0 → steps j (pieces s) ≡ j
  unfolding steps pieces_of
  lines_end h = rw h

append_of : (n : ℕ) (a b : List ℕ) → length a ≤ n → length a % 1002 ≡ 0 → pieces (a ++ b) ≡ pieces a ++ pieces b
unfolding pieces_of
append_of zero [] b h e = refl
append_of zero (x ∷ a) b h e = absurd (omega arith)
append_of (suc n) [] b h e = refl
append_of (suc n) (x ∷ a) b h e =
    let l = x ∷ a in
    let d = length-drop 1002 l in
    let w : 1002 ≤ length l = omega arith in
    pieces_first (l ++ b) (omega (arith, length-append l b)) ∙
    (rw (take-append-le 1002 l b w, drop-append-le 1002 l b w) (ap (λ (ps : List (List ℕ)). take 1002 l ∷ ps) (append_of n (drop 1002 l) b (omega arith) (omega arith))) ∙
    ap (λ (ps : List (List ℕ)). ps ++ pieces b) (sym (pieces_first l (omega arith))))

-- the pieces of whole lines and of what follows are those of both
pub pieces_append : (a b : List ℕ) → length a % 1002 ≡ 0 → pieces (a ++ b) ≡ pieces a ++ pieces b
pieces_append a b e = append_of (length a) a b (omega arith) e
