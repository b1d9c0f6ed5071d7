-- The runs of a row, drawn from left to right.
use Rattle.std.proofs.Common.{◌≡◌, ℕ, ◌+◌, ◌*◌, ◌<◌, ◌≤◌, Bool, true, false, ◌||◌, ◌⊎◌, List, [], ◌∷◌, ◌++◌, length, sym, refl, ap, ◌∙◌, ap₂, inl, inr, arith}
use Rattle.std.proofs.Math.Bool.{or-false, or_assoc}
use Rattle.std.proofs.lemmas.Bool.{cases_lt}
use Rattle.std.proofs.lemmas.Bool.Decides.{nat_tests}
use Rattle.boxes.specs.Banded.{Span}
use Rattle.boxes.specs.Bands.{Apart, in_spans}
use Rattle.boxes.specs.Cells.{between}
use Rattle.boxes.specs.Strips.{Drawn, limit}
use Rattle.boxes.proofs.Unique.{below, beyond, inside}

pub limit_push : (l : ℕ) (ss : List Span) (s : Span) → limit l (ss ++ s ∷ []) ≡ s.right + 1
limit_push l [] s = refl
limit_push l (t ∷ ss) s = limit_push (t.right + 1) ss s

pub apart_push : (l : ℕ) (ss : List Span) (s : Span) → Apart l ss → limit l ss ≤ s.left → s.left < s.right → s.right ≤ 256 → Apart l (ss ++ s ∷ [])
apart_push l [] s a h k m = (h, k, m, tt)
apart_push l (t ∷ ss) s a h k m = (a.0, a.1, a.2, apart_push (t.right + 1) ss s a.3 h k m)

pub apart_from : (l m : ℕ) (ss : List Span) → Apart m ss → l ≤ m → Apart l ss
apart_from l m [] a h = tt
apart_from l m (s ∷ ss) a h = (omega arith, a.1, a.2, a.3)

pub apart_size : (l : ℕ) (ss : List Span) → Apart l ss → l + 2 * length ss ≤ limit l ss
apart_size l [] a = omega arith
apart_size l (s ∷ ss) a = omega (arith, apart_size (s.right + 1) ss a.3)

-- past the last run there is none
pub apart_past : (l : ℕ) (ss : List Span) (x : ℕ) → Apart l ss → limit l ss ≤ x + 1 → in_spans ss x ≡ false
apart_past l [] x a h = refl
apart_past l (s ∷ ss) x a h =
    rw (beyond s.left s.right x (omega (arith, apart_size (s.right + 1) ss a.3))) (apart_past (s.right + 1) ss x a.3 h)

pub spans_push : (ss : List Span) (s : Span) (x : ℕ) → in_spans (ss ++ s ∷ []) x ≡ (in_spans ss x || between s.left s.right x)
spans_push [] s x = or-false (between s.left s.right x)
spans_push (t ∷ ss) s x =
    ap (λ v. between t.left t.right x || v) (spans_push ss s x) ∙ sym (or_assoc (between t.left t.right x) (in_spans ss x) (between s.left s.right x))

pub apart_last :
    (l : ℕ) (ss : List Span) (s : Span) → Apart l (ss ++ s ∷ []) → Apart l ss × (limit l ss ≤ s.left) × (s.left < s.right) × (s.right ≤ 256)
apart_last l [] s a = (tt, a.0, a.1, a.2)
apart_last l (t ∷ ss) s a =
    let r = apart_last (t.right + 1) ss s a.3 in
    ((a.0, a.1, a.2, r.0), r.1, r.2, r.3)

-- a row is empty, or has a last run
pub last_run : (ss : List Span) → (ss ≡ []) ⊎ ((rs : List Span) × (s : Span) × (ss ≡ rs ++ s ∷ []))
last_run [] = inl refl
last_run (t ∷ ss) =
    elim (last_run ss) [
      | inl e ↦ inr ([], t, ap (λ l. t ∷ l) e)
      | inr e ↦ inr (t ∷ e.0, e.1, ap (λ l. t ∷ l) e.2)
    ]

-- a run may begin at x if there is none yet, or the last ends before x
pub limit_none : (x : ℕ) → limit 0 [] ≤ x
limit_none x = omega arith

pub limit_before : (ss : List Span) (s : Span) (x : ℕ) → s.right < x → limit 0 (ss ++ s ∷ []) ≤ x
limit_before ss s x h = omega (arith, limit_push 0 ss s)

pub drawn_none : (c : ℕ → Bool) → Drawn c 0 []
drawn_none c = record { apart = tt; near = omega arith; cells = λ v h. absurd (omega arith) }

-- columns with no cell leave the runs as they are
pub drawn_pass : (c : ℕ → Bool) (x e : ℕ) (ss : List Span) → Drawn c x ss → x < e → ((v : ℕ) → x ≤ v → v < e → c v ≡ false) → Drawn c e ss
drawn_pass c x e ss d h off =
    record {
      apart = d.apart;
      near = omega (arith, d.near);
      cells = λ v k. elim (cases_lt v x) [
        | inl j ↦ d.cells v j
        | inr j ↦ apart_past 0 ss v d.apart (omega (arith, d.near)) ∙ sym (off v j k)
      ];
    }

-- cells that touch no run are one run more
pub drawn_push :
    (c : ℕ → Bool) (x e : ℕ) (ss : List Span) → Drawn c x ss → x < e → e ≤ 256 → ((v : ℕ) → x ≤ v → v < e → c v ≡ true) → limit 0 ss ≤ x
    → Drawn c e (ss ++ record { left = x; right = e } ∷ [])
drawn_push c x e ss d h top on free =
    let s : Span = record { left = x; right = e } in
    record {
      apart = apart_push 0 ss s d.apart free h top;
      near = omega (arith, limit_push 0 ss s);
      cells = λ v k. spans_push ss s v ∙ elim (cases_lt v x) [
        | inl j ↦ ap (λ w. in_spans ss v || w) (below x e v j) ∙ or-false (in_spans ss v) ∙ d.cells v j
        | inr j ↦ ap₂ ◌||◌ (apart_past 0 ss v d.apart (omega arith)) (inside x e v j k) ∙ sym (on v j k)
      ];
    }

wider : (l r e v : ℕ) → v < r → r ≤ e → between l e v ≡ between l r v
wider l r e v h k = grind (arith, nat_tests)

-- cells that touch the last run make it longer
pub drawn_widen :
    (c : ℕ → Bool) (x e : ℕ) (ss : List Span) (s : Span) → Drawn c x (ss ++ s ∷ []) → s.right ≡ x → x < e → e ≤ 256
    → ((v : ℕ) → x ≤ v → v < e → c v ≡ true) → Drawn c e (ss ++ record { left = s.left; right = e } ∷ [])
drawn_widen c x e ss s d at h top on =
    let s' : Span = record { left = s.left; right = e } in
    let a = apart_last 0 ss s d.apart in
    record {
      apart = apart_push 0 ss s' a.0 a.1 (omega arith) top;
      near = omega (arith, limit_push 0 ss s');
      cells = λ v k. spans_push ss s' v ∙ elim (cases_lt v x) [
        | inl j ↦ ap (λ w. in_spans ss v || w) (wider s.left s.right e v (omega arith) (omega arith)) ∙ sym (spans_push ss s v) ∙ d.cells v j
        | inr j ↦ ap₂ ◌||◌ (apart_past 0 ss v a.0 (omega arith)) (inside s.left e v (omega arith) k) ∙ sym (on v j k)
      ];
    }

-- a row that a run is still to be drawn in has fewer than 128 runs
pub room : (c : ℕ → Bool) (x : ℕ) (ss : List Span) → Drawn c x ss → limit 0 ss ≤ x → x < 256 → length ss < 128
room c x ss d free lt = omega (arith, apart_size 0 ss d.apart)
