-- Words that single spaces divide.
use Rattle.std.specs.Prelude.{◌≡◌, ℕ, ◌<◌, List, ◌++◌, length, codes, ◌≢◌, slice_index}

-- no space stands in the word
abbrev pub Unspaced : List ℕ → Type 0
Unspaced word = (k : ℕ) → k < length word → slice_index word k ≢ 32

-- the longest word before a space is `describe`
abbrev pub longest : ℕ
longest = 8

-- the word, a space and the rest
abbrev pub spaced : List ℕ → List ℕ → List ℕ
spaced word rest = word ++ (codes " " ++ rest)

-- the text is a word that spells the value, a space and the rest
abbrev pub Begins : {A : Type 0} → (A → List ℕ → Type 0) → A → List ℕ → List ℕ → Type 0
Begins Spells x rest text = (word : List ℕ) × Spells x word × (text ≡ spaced word rest)
