-- A text is its first word, a space and the rest in one way only.
use Rattle.std.proofs.Common.{◌≡◌, ℕ, suc, ◌+◌, ◌-◌, ◌<◌, ◌≤◌, false, cond, eqb, List, [], ◌∷◌, ◌++◌, length, get_or, take, drop, Option, MatchOption, sym, refl, ap, ◌∙◌, arith}
use Rattle.std.specs.List.{AllWithin, HoldsAt}
use Rattle.std.proofs.lemmas.List.{drop_more, get_or_at, get_or-take, length-append, length-take, take-append-drop, take_rest}
use Rattle.std.proofs.lemmas.Bool.Decides.{nat_tests}
use Rattle.command.specs.Spaces.{Unspaced, spaced}

-- the first word, and what stands behind its space
abbrev pub word_of : List ℕ → List ℕ
word_of [] = []
word_of (c ∷ cs) = cond (eqb c 32) [] (c ∷ word_of cs)

abbrev pub behind_of : List ℕ → List ℕ
behind_of [] = []
behind_of (c ∷ cs) = cond (eqb c 32) cs (behind_of cs)

other : (c : ℕ) → (c ≡ 32 → ⊥) → eqb c 32 ≡ false
other c h = grind (arith, nat_tests)

pub word_is : (word rest : List ℕ) → Unspaced word → word_of (spaced word rest) ≡ word
word_is [] rest h = refl
word_is (c ∷ word) rest h = rw (other c (h 0 (omega arith))) (ap (λ t. c ∷ t) (word_is word rest (λ k l. h (suc k) (omega arith))))

pub behind_is : (word rest : List ℕ) → Unspaced word → behind_of (spaced word rest) ≡ rest
behind_is [] rest h = refl
behind_is (c ∷ word) rest h = rw (other c (h 0 (omega arith))) (behind_is word rest (λ k l. h (suc k) (omega arith)))

-- the code is not a space's
abbrev pub NoSpace : ℕ → Type 0
NoSpace code = code ≡ 32 → ⊥

-- the first space of the text stands there
abbrev pub IsFirstSpace : List ℕ → ℕ → Type 0
IsFirstSpace text i = (i < length text) × HoldsAt (λ code. code ≡ 32) text i × AllWithin NoSpace text 0 i

-- the option is the place of the first space, or there is no space
abbrev pub FirstSpace : Option ℕ → List ℕ → Type 0
FirstSpace o text = MatchOption o (AllWithin NoSpace text 0 (length text)) (IsFirstSpace text)

-- the space behind the first word
pub space_at : (text word rest : List ℕ) → text ≡ spaced word rest → (length word < length text) × (get_or text (length word) 0 ≡ 32)
space_at text word rest e =
    (omega (arith, ap length e ∙ length-append word (32 ∷ rest)), ap (λ t. get_or t (length word) 0) e ∙ get_or_at word 32 rest 0 (length word) refl)

-- a text with no space so near its beginning has no first word that is so short
pub no_split :
    (most size : ℕ) (text : List ℕ) → most < size → AllWithin NoSpace (take size text) 0 (length (take size text))
    → (word rest : List ℕ) → length word ≤ most → text ≡ spaced word rest → ⊥
no_split most size text fits none word rest short e =
    let at = space_at text word rest e in
    none (length word) 0 (omega arith) (omega (arith, length-take size text)) (get_or-take size text (length word) 0 (omega arith) ∙ at.1)

-- the first space among the first codes is the text's
pub first_of : (size : ℕ) (text : List ℕ) (i : ℕ) → IsFirstSpace (take size text) i → IsFirstSpace text i
first_of size text i found =
    let near : i < size = omega (arith, length-take size text) in (
      omega (arith, length-take size text),
      (λ d. sym (get_or-take size text i d near) ∙ found.1 d),
      λ k d low high space. found.2 k d low high (get_or-take size text k d (omega arith) ∙ space),
    )

-- a text at its first space
pub split :
    (text : List ℕ) (i : ℕ) → IsFirstSpace text i
    → Unspaced (take i text) × (text ≡ spaced (take i text) (take (length text - (i + 1)) (drop (i + 1) text)))
split text i found = rw (take_rest text (i + 1)) (alone, whole)
  where
    alone : Unspaced (take i text)
    alone k l e =
        let near : k < i = omega (arith, length-take i text) in
        found.2 k 0 (omega arith) near (sym (get_or-take i text k 0 near) ∙ e)

    whole : text ≡ spaced (take i text) (drop (i + 1) text)
    whole = sym (take-append-drop i text) ∙ ap (λ t. take i text ++ t) (drop_more text i 0 found.0 ∙ ap (λ c. c ∷ drop (i + 1) text) (found.1 0))
