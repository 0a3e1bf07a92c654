-- What an IBAN's form decides, and its number, taken in runs of digits as the code takes it.
-- Assumes nothing.
use Rattle.refusal.proofs.Basics.{◌≡◌, refl, sym, ap, ◌∙◌, arith, ℕ, ◌+◌, ◌-◌, ◌*◌, ◌%◌, ◌≤◌, ◌<◌, length, take, drop, get_or, take-append-drop, length-drop, eqb-true, List, [], ◌∷◌, ◌++◌, true, false, ◌&&◌, eqb, length-take, length-take-le, take_all, drop-drop, mul-one, both_true, or_first}
use Rattle.classes.specs.Classes.{is_digit}
use Rattle.text.specs.Bytes.{all_of, bytes_verdict}
use Rattle.verdict.specs.Verdict.{passed}
use Rattle.classes.specs.declared.Class.TheVariants.{Digits, Account}
use Rattle.text.specs.Digits.{digits_of, value_from, value_of}
use Rattle.text.proofs.Laws.{digits_append, all_apart, all_wider, all_passes}
use Rattle.account.specs.Account.{check_digits, in_range, rearranged, iban_formed, iban_passes}
use Rattle.account.proofs.Runs.{value_after, digits_count, more_over, both_over, joined_over}

-- ---------------------------------------------------------------------------
-- Texts of an IBAN's form

module _ (s : List ℕ) (e : iban_formed s ≡ true) where
  -- 21 bytes
  pub formed_length : length s ≡ 21
  formed_length = eqb-true (length s) 21 (both_true (eqb (length s) 21) _ e).0

  -- digits from the third on
  formed_digits : all_of Digits (drop 2 s) ≡ true
  formed_digits =
      let t = both_true (eqb (length s) 21) _ e in
      let u = both_true (eqb (get_or s 0 0) 72) _ t.1 in
      (both_true (eqb (get_or s 1 0) 82) (all_of Digits (drop 2 s)) u.1).1

  -- so are n bytes from place k on
  pub run_digits_lem : (k n : ℕ) → 1 < k → all_of Digits (take n (drop k s)) ≡ true
  run_digits_lem k n h =
      let r = drop (k - 2) (drop 2 s) in
      let z : 2 + (k - 2) ≡ k = omega arith in
      let a = both_true (all_of Digits (take (k - 2) (drop 2 s))) (all_of Digits r) (sym (all_apart Digits (k - 2) (drop 2 s)) ∙ formed_digits) in
      let b = both_true (all_of Digits (take n r)) (all_of Digits (drop n r)) (sym (all_apart Digits n r) ∙ a.1) in
      ap (λ (t : List ℕ). all_of Digits (take n t)) (sym (drop-drop (k - 2) 2 s ∙ ap (λ (j : ℕ). drop j s) z)) ∙ b.0

  -- and few
  pub run_few : (k n : ℕ) → 1 < k → length (take n (drop k s)) ≤ 20
  run_few k n h = omega (arith, length-take n (drop k s), length-drop k s, formed_length)

  -- of which n are digits where the text goes so far
  run_count : (k n : ℕ) → 1 < k → k + n ≤ 21 → length (digits_of (take n (drop k s))) ≡ n
  run_count k n h g = digits_count (take n (drop k s)) (run_digits_lem k n h) ∙ length-take-le n (drop k s) (omega (arith, length-drop k s, formed_length))

  -- the bank's seven digits and the account's ten
  two_runs : digits_of (drop 4 s) ≡ digits_of (take 7 (drop 4 s)) ++ digits_of (take 10 (drop 11 s))
  two_runs =
      let bank = take 7 (drop 4 s) in
      let r : drop 7 (drop 4 s) ≡ take 10 (drop 11 s) = drop-drop 7 4 s ∙ sym (take_all 10 (drop 11 s) (omega (arith, length-drop 11 s, formed_length))) in
      ap digits_of (sym (take-append-drop 7 (drop 4 s)) ∙ ap (λ (t : List ℕ). bank ++ t) r) ∙ digits_append bank (take 10 (drop 11 s))

  -- the country's digits, 1727, and the check digits
  last_digits : value_of (1 ∷ (7 ∷ (2 ∷ (7 ∷ check_digits s)))) ≡ 172700 + value_of (check_digits s)
  unfolding value_from
  last_digits = let c = run_count 2 2 (omega arith) (omega arith) in rw (value_after 1727 (check_digits s), c)

  -- over 97: bank and account, each at its place, and the rest
  number_over : value_of (rearranged s) % 97 ≡ (value_of (digits_of (take 7 (drop 4 s))) * 62 + value_of (digits_of (take 10 (drop 11 s))) * 27 + (172700 + value_of (check_digits s))) % 97
  number_over =
      let xs = digits_of (take 7 (drop 4 s)) in
      let ys = digits_of (take 10 (drop 11 s)) in
      let zs : List ℕ = 1 ∷ (7 ∷ (2 ∷ (7 ∷ check_digits s))) in
      let both = value_of xs * 62 + value_of ys * 27 in
      let c : length zs ≡ 6 = omega (arith, run_count 2 2 (omega arith) (omega arith)) in
      ap (λ (l : List ℕ). value_of (l ++ zs) % 97) two_runs
      ∙ ap (λ (x : ℕ). x % 97) (sym (mul-one (value_of ((xs ++ ys) ++ zs))))
      ∙ joined_over 97 1 6 27 (xs ++ ys) zs c refl
      ∙ more_over 97 (value_of (xs ++ ys) * 27) both (value_of zs * 1) (joined_over 97 27 10 62 xs ys (run_count 11 10 (omega arith) (omega arith)) refl)
      ∙ ap (λ (x : ℕ). (both + x) % 97) (mul-one (value_of zs) ∙ last_digits)

  -- the check digits in range, the number decides
  pub number_decides : (k bank account : ℕ) → in_range k ≡ true → k ≡ value_of (check_digits s) → bank % 97 ≡ value_of (digits_of (take 7 (drop 4 s))) * 62 % 97 → account % 97 ≡ value_of (digits_of (take 10 (drop 11 s))) * 27 % 97 →
      eqb ((bank + account + 172700 + k) % 97) 1 ≡ iban_passes s
  unfolding iban_passes
  number_decides k bank account r ek eb ea =
      let z : bank + account + 172700 + k ≡ bank + account + (172700 + k) = omega arith in
      rw (← ek, r, number_over, ← ek)
      (ap (λ (x : ℕ). eqb x 1) (ap (λ (x : ℕ). x % 97) z ∙ more_over 97 (bank + account) _ (172700 + k) (both_over 97 bank _ account _ eb ea)))

-- none of their bytes is bad
pub formed_permitted : (s : List ℕ) → iban_formed s ≡ true → bytes_verdict Account s ≡ passed
formed_permitted s e = all_passes Account s (go s (formed_length s e) (both_true (eqb (length s) 21) _ e).1)
  where
    go : (s : List ℕ) → length s ≡ 21 → (eqb (get_or s 0 0) 72 && (eqb (get_or s 1 0) 82 && all_of Digits (drop 2 s))) ≡ true → all_of Account s ≡ true
    go [] n e = absurd (omega arith)
    go (a ∷ []) n e = absurd (omega arith)
    go (a ∷ (b ∷ s)) n e =
        let t = both_true (eqb a 72) _ e in
        let u = both_true (eqb b 82) (all_of Digits s) t.1 in
        unfold all_of in rw (eqb-true a 72 t.0, eqb-true b 82 u.0) (all_wider Digits Account (λ (d : ℕ) h. sym (or_first (is_digit d) _ h)) s u.1)

-- other check digits fail
pub range_fails : (s : List ℕ) (k : ℕ) → k ≡ value_of (check_digits s) → in_range k ≡ false → false ≡ iban_passes s
unfolding iban_passes
range_fails s k e r = rw (← e, r)
