-- What a number's spelling looks like, and that it can be read in one way.
use Rattle.std.proofs.Common.{◌≡◌, ℕ, zero, suc, ◌+◌, ◌-◌, ◌*◌, ◌/◌, ◌%◌, ◌<◌, ◌≤◌, List, [], ◌∷◌, ◌++◌, map, length, get_or, take, drop, ◌==◌, sym, refl, ap, ◌∙◌, ⊎_elim, inl, inr, arith}
use Prim.Native.Nat.compare
use lib.ListN.{length-map}
use Rattle.std.specs.Int.Digits.{digits_of, number_from_digits, AllBelowBase}
use Rattle.std.specs.Bool.{then_some}
use Rattle.std.specs.Char.{IsNotAsciiDigit}
use Rattle.std.proofs.lemmas.List.{map_push, take_more, take_rest}
use Rattle.std.proofs.lemmas.Bool.{cases_lt}
use Rattle.std.proofs.lemmas.Int.Digits.{digits_of_step, number_digits_of, first_digits_of, all_below_base_digits_of}
use Rattle.notation.specs.Decimal.{SpellsNumber, decimal, saturated}
use Rattle.notation.specs.Reads.{Reads}

-- the digits of a number, none for 0
abbrev pub digits_text : ℕ → List ℕ
digits_text n = map (λ d. 48 + d) (digits_of 10 n)

pub digits_push : (n d : ℕ) → d < 10 → 0 < n * 10 + d → digits_text (n * 10 + d) ≡ digits_text n ++ (48 + d) ∷ []
digits_push n d small some =
    let q : (n * 10 + d) / 10 ≡ n = omega arith in
    let r : (n * 10 + d) % 10 ≡ d = omega arith in
    ap (map (λ x. 48 + x)) (digits_of_step 10 (n * 10 + d) (omega arith) some)
    ∙ map_push (λ x. 48 + x) (digits_of 10 ((n * 10 + d) / 10)) ((n * 10 + d) % 10)
    ∙ ap (λ x. digits_text x ++ (48 + (n * 10 + d) % 10) ∷ []) q
    ∙ ap (λ x. digits_text n ++ (48 + x) ∷ []) r

-- reading digits on, a number that does not fit stays the largest that does
saturates : (n d : ℕ) → saturated (saturated (saturated n * 10) + d) ≡ saturated (n * 10 + d)
saturates n d = omega arith

lessened : (ds : List ℕ) → map (λ c. c - 48) (map (λ d. 48 + d) ds) ≡ ds
lessened [] = refl
lessened (d ∷ ds) = let e : 48 + d - 48 ≡ d = omega arith in λ i. e i ∷ lessened ds i

-- the number that a spelling writes
abbrev pub undecimal : List ℕ → ℕ
undecimal text = number_from_digits 10 (map (λ c. c - 48) text)

pub undecimal-decimal : (n : ℕ) → undecimal (decimal n) ≡ n
undecimal-decimal zero = refl
undecimal-decimal (suc n) = ap (number_from_digits 10) (lessened (digits_of 10 (suc n))) ∙ number_digits_of 10 (suc n) (omega arith)

-- no two numbers are written alike
pub decimal_tells : (m n : ℕ) → decimal m ≡ decimal n → m ≡ n
decimal_tells m n e = sym (undecimal-decimal m) ∙ ap undecimal e ∙ undecimal-decimal n

-- the first i digits of the text write some number, which is read as m
pub record Read (text : List ℕ) (i m : ℕ) : Type 0 where
  pub whole : ℕ
  pub digits : take i text ≡ digits_text whole
  pub known : m ≡ saturated whole
  pub some : 0 < i → 0 < whole

pub read_more : (text : List ℕ) (i m tens end : ℕ) → (get_or text 0 0 ≡ 48 → ⊥) → i < length text → 48 ≤ get_or text i 0 → get_or text i 0 ≤ 57 → tens ≡ saturated (m * 10) → end ≡ saturated (tens + (get_or text i 0 - 48)) → Read text i m → Read text (i + 1) end
read_more text i m tens end lead within low high t e r =
    let back : 48 + (get_or text i 0 - 48) ≡ get_or text i 0 = omega arith in
    record {
      whole = r.whole * 10 + (get_or text i 0 - 48);
      digits = take_more text i 0 within ∙ ap (λ t. t ++ get_or text i 0 ∷ []) r.digits ∙ ap (λ x. digits_text r.whole ++ x ∷ []) (sym back) ∙ sym (digits_push r.whole (get_or text i 0 - 48) (omega arith) positive);
      known = e ∙ ap (λ x. saturated (x + (get_or text i 0 - 48))) (t ∙ ap (λ x. saturated (x * 10)) r.known) ∙ saturates r.whole (get_or text i 0 - 48);
      some = λ _. positive;
    }
  where
    first : i ≡ 0 → 0 < r.whole * 10 + (get_or text i 0 - 48)
    first z = ⊎_elim (λ l. l) (λ l. absurd (lead (ap (λ k. get_or text k 0) (sym z) ∙ omega arith))) (cases_lt 0 (r.whole * 10 + (get_or text i 0 - 48)))

    positive : 0 < r.whole * 10 + (get_or text i 0 - 48)
    positive = ⊎_elim (λ z. omega (arith, r.some z)) (λ z. first (omega arith)) (cases_lt 0 i)

digit_in : (ds : List ℕ) (i : ℕ) → AllBelowBase 10 ds → i < length ds → (48 ≤ get_or (map (λ d. 48 + d) ds) i 0) × (get_or (map (λ d. 48 + d) ds) i 0 ≤ 57)
digit_in [] i u h = absurd (omega arith)
digit_in (d ∷ ds) zero u h = (omega arith, omega (arith, u.0))
digit_in (d ∷ ds) (suc i) u h = digit_in ds i u.1 (omega arith)

-- each code in a number's spelling is a digit's
decimal_in : (n i : ℕ) → i < length (decimal n) → (48 ≤ get_or (decimal n) i 0) × (get_or (decimal n) i 0 ≤ 57)
decimal_in zero zero h = (omega arith, omega arith)
decimal_in zero (suc i) h = absurd (omega arith)
decimal_in (suc n) i h = digit_in (digits_of 10 (suc n)) i (all_below_base_digits_of 10 (suc n) (omega arith)) (omega (arith, length-map (digits_of 10 (suc n)) (λ d. 48 + d)))

-- no space stands in a number's spelling
pub no_space : (n k : ℕ) → k < length (decimal n) → get_or (decimal n) k 0 ≡ 32 → ⊥
no_space n k h space = let d = decimal_in n k h in omega arith

pub no_digit : (text : List ℕ) (i : ℕ) → i < length text → IsNotAsciiDigit (get_or text i 0) → (m : ℕ) → SpellsNumber m text → ⊥
no_digit text i h f m s =
    let d = decimal_in s.0 i (omega (arith, ap length s.1)) in
    let same : get_or text i 0 ≡ get_or (decimal s.0) i 0 = ap (λ t. get_or t i 0) s.1 in
    elim f [ inl low ↦ omega arith | inr high ↦ omega arith ]

-- the first digit of a number that is not 0
first_digit : (n : ℕ) → 0 < n → (0 < length (decimal n)) × (48 < get_or (decimal n) 0 0)
first_digit zero h = absurd (omega arith)
first_digit (suc n) h = at (digits_of 10 (suc n)) (first_digits_of 10 (suc n) (omega arith) (omega arith))
  where
    at : (ds : List ℕ) → 0 < get_or ds 0 0 → (0 < length (map (λ d. 48 + d) ds)) × (48 < get_or (map (λ d. 48 + d) ds) 0 0)
    at [] h = absurd (omega arith)
    at (d ∷ ds) h = (omega arith, omega arith)

-- only 0 begins with the digit 0
pub leading_zero :
    (text : List ℕ) → 1 ≤ length text → get_or text 0 0 ≡ 48
    → Reads SpellsNumber (then_some (length (take (length text - 1) (drop 1 text)) == 0) 0) text
leading_zero [] h z = absurd (omega arith)
leading_zero (c ∷ []) h z = (0, (λ i. z i ∷ []), refl)
leading_zero (c ∷ d ∷ text) h z = rw (take_rest (c ∷ d ∷ text) 1, compare.suc-zero) (λ m s. longer s.0 s.1)
  where
    longer : (n : ℕ) → c ∷ d ∷ text ≡ decimal n → ⊥
    longer zero e = absurd (omega (arith, ap length e))
    longer (suc n) e = omega (arith, ap (λ t. get_or t 0 0) e, (first_digit (suc n) (omega arith)).1)
