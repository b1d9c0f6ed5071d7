-- What a byte string's spelling looks like, and that it can be read in one way.
use Rattle.std.proofs.Common.{◌≡◌, ℕ, suc, ◌+◌, ◌-◌, ◌*◌, ◌/◌, ◌%◌, ◌<◌, ◌≤◌, ◌==◌, cond, ltb, List, [], ◌∷◌, ◌++◌, length, get_or, set, take, drop, vec_items, Vec, sym, refl, ap, ◌∙◌, subst, arith}
use Rattle.std.specs.declared.alloc.Global.{Global}
use Rattle.std.specs.Bool.{then_some}
use Rattle.std.proofs.lemmas.List.{append_assoc, append-nil, length-append, length-set, take_more, take_more_set, take_rest}
use Rattle.std.proofs.lemmas.Bool.Decides.{nat_tests}
use Rattle.std.proofs.lemmas.Str.Ascii.{IsAscii-nil, IsAscii-cons}
use Rattle.std.specs.Str.{IsAscii}
use Rattle.notation.specs.Hex.{Bytes, SpellsPair, hex_digit, hex_pairs, hex_of}
use Rattle.notation.specs.Reads.{ReadsBytes}

pub pairs_append : (bs cs : List ℕ) → hex_pairs (bs ++ cs) ≡ hex_pairs bs ++ hex_pairs cs
pairs_append [] cs = refl
pairs_append (b ∷ bs) cs = ap (λ ds. hex_digit (b / 16) ∷ hex_digit (b % 16) ∷ ds) (pairs_append bs cs)

pub length_pairs : (bs : List ℕ) → length (hex_pairs bs) ≡ 2 * length bs
length_pairs [] = refl
length_pairs (b ∷ bs) = omega (arith, length_pairs bs)

-- each code is one of ASCII
digit_ascii : (d : ℕ) → d < 16 → hex_digit d < 128
digit_ascii d h = grind (arith, nat_tests)

pub pairs_ascii : (bs : List ℕ) → ((i : ℕ) → get_or bs i 0 < 256) → IsAscii (hex_pairs bs)
pairs_ascii [] small = IsAscii-nil
pairs_ascii (b ∷ bs) small =
    let byte : b < 256 = small 0 in
    let low = IsAscii-cons (hex_digit (b % 16)) (hex_pairs bs) (digit_ascii (b % 16) (omega arith)) (pairs_ascii bs (λ i. small (suc i))) in
    IsAscii-cons (hex_digit (b / 16)) (hex_digit (b % 16) ∷ hex_pairs bs) (digit_ascii (b / 16) (omega arith)) low

-- only where there are no bytes is their text not that of their pairs
pub pairs_of_some : (bs : List ℕ) → 0 < length bs → hex_pairs bs ≡ hex_of bs
pairs_of_some [] some = absurd (omega arith)
pairs_of_some (b ∷ bs) some = refl

-- one more byte's digits are put behind those of the bytes so far
pub put_pair :
    (bytes digits : List ℕ) (i h l : ℕ) → i < length bytes → 2 * i + 1 < length digits
    → h ≡ hex_digit (get_or bytes i 0 / 16) → l ≡ hex_digit (get_or bytes i 0 % 16)
    → take (2 * i) digits ≡ hex_pairs (take i bytes)
    → take (2 * (i + 1)) (set (set digits (2 * i) h) (2 * i + 1) l) ≡ hex_pairs (take (i + 1) bytes)
put_pair bytes digits i h l within room high low so_far =
    let two : 2 * (i + 1) ≡ 2 * i + 1 + 1 = omega arith in
    let first = take_more_set digits (2 * i) h (omega arith) in
    let second = take_more_set (set digits (2 * i) h) (2 * i + 1) l (omega (arith, length-set digits (2 * i) h)) in
    let more = take_more bytes i 0 within in
    let pairs = pairs_append (take i bytes) (get_or bytes i 0 ∷ []) in
    let parts = append_assoc (hex_pairs (take i bytes)) (h ∷ []) (l ∷ []) in
    cc

-- no text of odd length is a spelling
pub no_odd : (text bs : List ℕ) → (length text % 2 ≡ 0 → ⊥) → text ≡ hex_pairs bs → ⊥
no_odd text bs odd e = odd (omega (arith, ap length e, length_pairs bs))

-- the digit, and the bytes, that a spelling writes
abbrev undigit : ℕ → ℕ
undigit c = cond (ltb c 65) (c - 48) (c - 55)

abbrev pub unhex : List ℕ → List ℕ
unhex [] = []
unhex (c ∷ []) = []
unhex (h ∷ l ∷ text) = (16 * undigit h + undigit l) ∷ unhex text

undigit-hex_digit : (d : ℕ) → d < 16 → undigit (hex_digit d) ≡ d
undigit-hex_digit d h = grind (arith, nat_tests)

unhex-pairs : (bs : List ℕ) → Bytes bs → unhex (hex_pairs bs) ≡ bs
unhex-pairs [] p = refl
unhex-pairs (b ∷ bs) p =
    let h = undigit-hex_digit (b / 16) (omega (arith, p.0)) in
    let l = undigit-hex_digit (b % 16) (omega arith) in
    let first : 16 * undigit (hex_digit (b / 16)) + undigit (hex_digit (b % 16)) ≡ b = omega arith in
    λ i. first i ∷ unhex-pairs bs p.1 i

pub unhex-hex_of : (bs : List ℕ) → Bytes bs → unhex (hex_of bs) ≡ bs
unhex-hex_of [] p = refl
unhex-hex_of (b ∷ bs) p = unhex-pairs (b ∷ bs) p

-- where the rest of a text begins with no byte's digits, no bytes are written so
pub no_pair :
    (text read rest : List ℕ) → 2 ≤ length rest → text ≡ hex_pairs read ++ rest
    → ((b : ℕ) → SpellsPair b (get_or rest 0 0 ∷ get_or rest 1 0 ∷ []) → ⊥)
    → (bs : List ℕ) → Bytes bs → text ≡ hex_pairs bs → ⊥
no_pair text read rest more e f bs p g = behind read bs p (sym e ∙ g)
  where
    behind : (read bs : List ℕ) → Bytes bs → hex_pairs read ++ rest ≡ hex_pairs bs → ⊥
    behind [] [] p e = absurd (omega (arith, ap length e))
    behind [] (b ∷ bs) p e = f b (p.0, ap (λ t. get_or t 0 0 ∷ get_or t 1 0 ∷ []) e)
    behind (r ∷ read) [] p e = absurd (omega (arith, ap length e))
    behind (r ∷ read) (b ∷ bs) p e = behind read bs p.1 (ap (drop 2) e)

bytes_push : (bs : List ℕ) (b : ℕ) → Bytes bs → b < 256 → Bytes (bs ++ b ∷ [])
bytes_push [] b p h = (h, tt)
bytes_push (c ∷ bs) b p h = (p.0, bytes_push bs b p.1 h)

-- the text is the spelling of the bytes, and then the rest
abbrev pub ReadSoFar : List ℕ → List ℕ → List ℕ → Type 0
ReadSoFar text bs rest = Bytes bs × (text ≡ hex_pairs bs ++ rest)

-- one more byte is read
pub read_pair :
    (text bs rest end : List ℕ) (b : ℕ) → 2 ≤ length rest → ReadSoFar text bs rest
    → SpellsPair b (get_or rest 0 0 ∷ get_or rest 1 0 ∷ []) → end ≡ bs ++ b ∷ []
    → ReadSoFar text end (take (length rest - 2) (drop 2 rest))
read_pair text bs [] end b more so d e = absurd (omega arith)
read_pair text bs (h ∷ []) end b more so d e = absurd (omega arith)
read_pair text bs (h ∷ l ∷ rest) end b more so d e =
    let behind = take_rest (h ∷ l ∷ rest) 2 in
    let pairs = pairs_append bs (b ∷ []) in
    let parts = append_assoc (hex_pairs bs) (h ∷ l ∷ []) rest in
    (subst Bytes (sym e) (bytes_push bs b so.0 d.0), (cc))

-- all is read, or a digit is left over
pub read_pairs :
    (text rest : List ℕ) (v : Vec ℕ Global) → length rest < 2 → ReadSoFar text (vec_items v) rest
    → ReadsBytes hex_pairs (then_some (length rest == 0) v) text
read_pairs text [] v h so = (so.0, so.1 ∙ append-nil (hex_pairs (vec_items v)))
read_pairs text (c ∷ []) v h so = λ bs p e. omega (arith, ap length (sym so.1 ∙ e), length-append (hex_pairs (vec_items v)) (c ∷ []), length_pairs (vec_items v), length_pairs bs)
read_pairs text (c ∷ d ∷ rest) v h so = absurd (omega arith)
