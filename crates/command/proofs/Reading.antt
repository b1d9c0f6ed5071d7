-- What is left to show where a text's first word has been read.
use Rattle.std.proofs.Common.{◌≡◌, ℕ, ◌^◌, ◌<◌, ◌≤◌, Bool, true, false, List, length, Some, None, Ok, Err, codes, eqb, leb, Option, Result, Vec, vec_items, refl, sym, ap, ◌∙◌, subst, lit≤, arith, rules, MatchOption}
use Rattle.std.specs.Bool.{Decides, then_some}
use Rattle.std.specs.declared.alloc.Global.{Global}
use Rattle.std.specs.List.{list_all}
use Rattle.std.specs.Option.{IsSomeAnd}
use Rattle.std.specs.Vec.{vec_len}
use Rattle.std.specs.Result.{OkIff, result_ok}
use Rattle.std.proofs.lemmas.Bool.{true≢false}
use Rattle.std.proofs.lemmas.Bool.Decides.{Decides-eqb, nat_tests}
use Rattle.std.proofs.lemmas.Slice.Eq.{HasBytesAt, text_from_reads}
use Rattle.std.proofs.lemmas.Option.{MatchOption-at_none, MatchOption-at_some}
use Rattle.notation.specs.Decimal.{SpellsBelow, SpellsNumber, decimal, saturated}
use Rattle.notation.specs.Hex.{Bytes, hex_of}
use Rattle.notation.specs.Reads.{Reads, ReadsBytes}
use Rattle.notation.proofs.Numbers.{decimal_tells}
use Rattle.notation.proofs.Pairs.{unhex, unhex-hex_of}
use Rattle.command.specs.Grammar.{Spells, kind_word, read_limit}
use Rattle.command.specs.Spaces.{Begins, Unspaced, longest, spaced}
use Rattle.command.specs.Unspaced.{not_space, no_space_in}
use Rattle.command.specs.declared.Command.{Command}
use Rattle.command.specs.declared.Command.TheVariants.{Line, Write, Read, Flush, Queue, Carry, Pixel, Describe, Recognize}
use Rattle.command.specs.declared.Kind.{Kind}
use Rattle.command.proofs.Splits.{behind_is, behind_of, space_at, word_is, word_of}

-- a part that is missing leaves nothing that is spelled
pub missing : {X : Type 0} (o : Option X) (P : Type 0) (Q : X → Type 0) → o ≡ None → P → MatchOption o P Q
missing {X} o P Q e p = subst (λ (z : Option X). MatchOption z P Q) (sym e) p

-- two divisions of a text at its first space are one
same_word : (text word rest word' rest' : List ℕ) → Unspaced word → text ≡ spaced word rest → Unspaced word' → text ≡ spaced word' rest' → word ≡ word'
same_word text word rest word' rest' u e u' e' = sym (word_is word rest u) ∙ ap word_of (sym e ∙ e') ∙ word_is word' rest' u'

pub same_rest : (text word rest word' rest' : List ℕ) → Unspaced word → text ≡ spaced word rest → Unspaced word' → text ≡ spaced word' rest' → rest ≡ rest'
same_rest text word rest word' rest' u e u' e' = sym (behind_is word rest u) ∙ ap behind_of (sym e ∙ e') ∙ behind_is word' rest' u'

-- a first word that spells no value
pub no_first :
    {A : Type 0} (Of : A → List ℕ → Type 0) → ((x : A) (text : List ℕ) → Of x text → Unspaced text)
    → (text word rest : List ℕ) → Unspaced word → text ≡ spaced word rest → ((x : A) → Of x word → ⊥)
    → (x : A) (word' rest' : List ℕ) → Of x word' → text ≡ spaced word' rest' → ⊥
no_first Of unspaced text word rest u e h x word' rest' s e' = h x (subst (Of x) (sym (same_word text word rest word' rest' u e (unspaced x word' s) e')) s)

-- a rest that spells no value
pub no_rest :
    {A B : Type 0} (Of : A → List ℕ → Type 0) (Behind : B → List ℕ → Type 0) → ((x : A) (text : List ℕ) → Of x text → Unspaced text)
    → (text rest : List ℕ) (x : A) → Begins Of x rest text → ((y : B) → Behind y rest → ⊥)
    → (x' : A) (word' rest' : List ℕ) → Of x' word' → text ≡ spaced word' rest' → (y : B) → Behind y rest' → ⊥
no_rest Of Behind unspaced text rest x at h x' word' rest' s' e' y b =
    h y (subst (Behind y) (sym (same_rest text at.0 rest word' rest' (unspaced x at.0 at.1) at.2 (unspaced x' word' s') e')) b)

-- what is told of a text by the letters of its first word
pub by_word :
    (P : List ℕ → Type 0) (front text word rest : List ℕ) → length word ≡ length front → HasBytesAt word 0 front → text ≡ spaced word rest
    → P (spaced front rest) → P text
by_word P front text word rest size letters e p = subst P (sym (e ∙ ap (λ t. spaced t rest) (text_from_reads word front size letters))) p

-- a text that writes no number writes none below a limit
pub not_below : (limit : ℕ) (text : List ℕ) → ((m : ℕ) → SpellsNumber m text → ⊥) → (n : ℕ) → SpellsBelow limit n text → ⊥
not_below limit text h n s = h (saturated n) (n, s.1, refl)

-- a number that is read is of fewer bits where it fits them
pub narrow :
    {E : Type 0} (limit : ℕ) → limit < 2 ^ 64 → (text : List ℕ) (m : ℕ) (r : Result ℕ E) → SpellsNumber m text → OkIff r (m < limit) m
    → Reads (SpellsBelow limit) (result_ok r) text
narrow limit fits text m (Ok x) s o = let same : s.0 ≡ x = omega arith in (omega arith, s.1 ∙ ap decimal same)
narrow limit fits text m (Err e) s o = λ n t. let same : s.0 ≡ n = decimal_tells s.0 n (sym s.1 ∙ t.1) in o (omega arith)

pub no_line : (text : List ℕ) → ((kind : Kind) (n : ℕ) → text ≡ spaced (kind_word kind) (decimal n) → ⊥) → (c : Command) → Spells c (spaced (codes "line") text) → ⊥
no_line text h = search rules

no_read : (text : List ℕ) → ((n : ℕ) → n ≤ read_limit → text ≡ decimal n → ⊥) → (c : Command) → Spells c (spaced (codes "read") text) → ⊥
no_read text h = search rules

no_sixteen : (text : List ℕ) → ((bs : List ℕ) → Bytes bs → length bs ≡ 16 → text ≡ hex_of bs → ⊥) → (c : Command) → Spells c (spaced (codes "format") text) → ⊥
no_sixteen text h = search rules

-- a value that passes a test becomes a command, and another does not
abbrev Kept : {A : Type 0} → (A → Bool) → (A → Command) → Option A → Option Command → Type 0
Kept test make o r = MatchOption o (r ≡ None) (λ x. r ≡ then_some (test x) (make x))

-- by `filter` and `map`
pub kept :
    {A : Type 0} {Gives : A → Bool → Type 0} {Makes : A → Command → Type 0} (test : A → Bool) (make : A → Command) (o f : Option A) (r : Option Command)
    → MatchOption o (f ≡ None) (λ x. (b : Bool) × Gives x b × (f ≡ then_some b x)) → ((x : A) (b : Bool) → Gives x b → b ≡ test x)
    → MatchOption f (r ≡ None) (λ x. IsSomeAnd r (Makes x)) → ((x : A) (c : Command) → Makes x c → c ≡ make x)
    → Kept test make o r
kept {A} {Gives} {Makes} test make None f r g t m k = MatchOption-at_none (r ≡ None) (λ x. IsSomeAnd r (Makes x)) g m
kept {A} {Gives} {Makes} test make (Some x) f r g t m k = by_test g.0 g.2 ∙ ap (λ b. then_some b (make x)) (t x g.0 g.1)
  where
    made : (o : Option Command) → IsSomeAnd o (Makes x) → o ≡ Some (make x)
    made None h = absurd h
    made (Some c) h = ap Some (k x c h)

    by_test : (b : Bool) → f ≡ then_some b x → r ≡ then_some b (make x)
    by_test true e = made r (MatchOption-at_some (r ≡ None) (λ x. IsSomeAnd r (Makes x)) x e m)
    by_test false e = MatchOption-at_none (r ≡ None) (λ x. IsSomeAnd r (Makes x)) e m

pub read_limited : (text : List ℕ) (o : Option ℕ) (r : Option Command) → Reads SpellsNumber o text → Kept (λ n. leb n read_limit) Read o r → Reads Spells r (spaced (codes "read") text)
read_limited text None r s e = missing r _ _ e (no_read text (λ n low t. s (saturated n) (n, t, refl)))
read_limited text (Some m) r s e = subst (λ z. Reads Spells z (spaced (codes "read") text)) (sym e) (at (leb m read_limit) refl)
  where
    at : (fits : Bool) → fits ≡ leb m read_limit → Reads Spells (then_some fits (Read m)) (spaced (codes "read") text)
    at true t =
        let low : m ≤ read_limit = grind (arith, nat_tests) in
        let same : s.0 ≡ m = omega arith in
        (low, ap (λ t. spaced (codes "read") t) (s.1 ∙ ap decimal same))
    at false t = no_read text (λ n low e.
        let same : s.0 ≡ n = decimal_tells s.0 n (sym s.1 ∙ e) in
        let high : read_limit < m = grind (arith, nat_tests) in
        omega arith)

pub described :
    (text : List ℕ) (o : Option (Vec ℕ Global)) (r : Option Command)
    → ReadsBytes hex_of o text → Kept (λ v. eqb (vec_len v) 16) Recognize o r → Reads Spells r (spaced (codes "format") text)
described text None r s e = missing r _ _ e (no_sixteen text (λ bs p l t. s bs p t))
described text (Some v) r s e = subst (λ z. Reads Spells z (spaced (codes "format") text)) (sym e) (at (eqb (vec_len v) 16) (Decides-eqb (vec_len v) 16))
  where
    size : vec_len v ≡ length (vec_items v)
    size = omega (arith, v.ok.0)

    at : (sixteen : Bool) → Decides sixteen (vec_len v ≡ 16) → Reads Spells (then_some sixteen (Recognize v)) (spaced (codes "format") text)
    at true d = (sym size ∙ d.0 refl, (s.0, ap (λ t. spaced (codes "format") t) s.1))
    at false d = no_sixteen text (λ bs p l e.
        let same : vec_items v ≡ bs = sym (unhex-hex_of (vec_items v) s.0) ∙ ap unhex (sym s.1 ∙ e) ∙ unhex-hex_of bs p in
        true≢false (sym (d.1 (size ∙ ap length same ∙ l))))

-- a text with no space behind a first word is a form with no words behind the first
pub lone_only :
    (o : Option Command) (text : List ℕ) → ((word rest : List ℕ) → length word ≤ longest → text ≡ spaced word rest → ⊥)
    → MatchOption o ((text ≡ codes "flush" → ⊥) × (text ≡ codes "queue" → ⊥)) (λ c. Spells c text) → Reads Spells o text
lone_only (Some c) text h s = s
lone_only None text h s = elim [
  | Line kind m ↦ λ t. h (codes "line") _ (lit≤ tt) t.1
  | Write v ↦ λ t. h (codes "write") _ (lit≤ tt) t.1
  | Read n ↦ λ t. h (codes "read") _ (lit≤ tt) t.1
  | Flush ↦ s.0
  | Queue ↦ s.1
  | Carry v ↦ λ t. h (codes "carry") _ (lit≤ tt) t.1
  | Pixel format v ↦ λ t. h (codes "pixel") _ (lit≤ tt) t.1
  | Describe format ↦ λ t. h (codes "describe") _ (lit≤ tt) t
  | Recognize v ↦ λ t. h (codes "format") _ (lit≤ tt) t.1.1
]

-- a first word that begins no form
pub no_form :
    (text word rest : List ℕ) → Unspaced word → text ≡ spaced word rest
    → (word ≡ codes "line" → ⊥) → (word ≡ codes "write" → ⊥) → (word ≡ codes "read" → ⊥) → (word ≡ codes "carry" → ⊥)
    → (word ≡ codes "pixel" → ⊥) → (word ≡ codes "describe" → ⊥) → (word ≡ codes "format" → ⊥) → (c : Command) → Spells c text → ⊥
no_form text word rest u e line write read carry pixel describe format = elim [
  | Line kind m ↦ λ s. line (begun (codes "line") _ refl s.1)
  | Write v ↦ λ s. write (begun (codes "write") _ refl s.1)
  | Read n ↦ λ s. read (begun (codes "read") _ refl s.1)
  | Flush ↦ λ s. spaceless (codes "flush") refl s
  | Queue ↦ λ s. spaceless (codes "queue") refl s
  | Carry v ↦ λ s. carry (begun (codes "carry") _ refl s.1)
  | Pixel format' v ↦ λ s. pixel (begun (codes "pixel") _ refl s.1)
  | Describe format' ↦ λ s. describe (begun (codes "describe") _ refl s)
  | Recognize v ↦ λ s. format (begun (codes "format") _ refl s.1.1)
]
  where
    begun : (front more : List ℕ) → list_all not_space front ≡ true → text ≡ spaced front more → word ≡ front
    begun front more all f = same_word text word rest front more u e (no_space_in front all front refl) f

    spaceless : (front : List ℕ) → list_all not_space front ≡ true → text ≡ front → ⊥
    spaceless front all f = let at = space_at text word rest e in no_space_in front all text f (length word) at.0 at.1
