-- Every run conserves the bytes.
use Rattle.std.proofs.Common.{◌≡◌, ℕ, ◌+◌, ◌-◌, ◌<◌, ◌≤◌, min, List, [], ◌∷◌, ◌++◌, map, length, get_or, take, drop, sym, refl, ap, ◌∙◌, subst, arith}
use Rattle.std.proofs.lemmas.List.{append_assoc, append-nil, length-take-le, take_at, take_all, take-append-drop, take-map, length-map, map_more, map_push}
use Rattle.line.specs.Rules.{State, Within, Read}
use Rattle.transfer.specs.declared.calls.Answer.{Answer}
use Rattle.transfer.specs.declared.calls.Call.{Call}
use Rattle.transfer.specs.Runs.{Act, write, read, flush, Reply, took, gave, done, Answered, Ran, Received, taken_in, given_in, taken, given, act, reply, Conserved, Stopped}

-- one call conserves them
once : (a : Act) (r : Reply) (s t : State) → Answered a r s t → given_in r ++ t.queue ≡ s.queue ++ taken_in a r
once (write bs) (took n) s t w = w.queued
once (read n) (gave bs) s t w = sym w.split ∙ sym (append-nil s.queue)
once flush done s t w = w.queued ∙ sym (append-nil s.queue)
once a r s t w = absurd w

pub conserved : (acts : List Act) (rs : List Reply) (s t : State) → Ran acts rs s t → Conserved acts rs s t
conserved [] [] s t e = ap (λ (z : State). z.queue) (sym e) ∙ sym (append-nil s.queue)
conserved (a ∷ acts) (r ∷ rs) s t w =
    let m = w.0 in
    append_assoc (given_in r) (given rs) t.queue
    ∙ ap (λ z. given_in r ++ z) (conserved acts rs m t w.2)
    ∙ sym (append_assoc (given_in r) m.queue (taken acts rs))
    ∙ ap (λ z. z ++ taken acts rs) (once a r s m w.1)
    ∙ append_assoc s.queue (taken_in a r) (taken acts rs)
conserved acts rs s t w = absurd w

-- a run goes on by one call
pub ran_more : (acts : List Act) (rs : List Reply) (a : Act) (r : Reply) (s m t : State) → Ran acts rs s m → Answered a r m t → Ran (acts ++ a ∷ []) (rs ++ r ∷ []) s t
ran_more [] [] a r s m t e w = (t, subst (λ (z : State). Answered a r z t) (sym e) w, refl)
ran_more (b ∷ acts) (q ∷ rs) a r s m t h w = (h.0, h.1, ran_more acts rs a r h.0 m t h.2 w)
ran_more acts rs a r s m t h w = absurd h

-- a read into memory, as its caller sees it: `bs` is the part of the memory that was read into
pub received :
    (into into' rest bs : List ℕ) (most n : ℕ) (s t : State) → Within s.queue s.ready → length into ≡ most → length into' ≡ most → Read into n into' s t
    → bs ≡ take n (take most (into' ++ rest)) → Received most bs s t
received into into' rest bs most n s t l e f h p =
    let q = s.queue in
    let count = h.count in
    let long : length (take n q) ≡ n = length-take-le n q (omega arith) in
    let same : bs ≡ take n q = p ∙ ap (take n) (take_at into' rest most f ∙ h.moved) ∙ take_at (take n q) (drop n into) n long in
    record {
      count = ap length same ∙ long ∙ count ∙ ap (λ z. min z s.ready) e;
      split = sym (take-append-drop n q) ∙ ap (λ z. take n q ++ z) (sym h.queued) ∙ ap (λ z. z ++ t.queue) (sym same);
    }

-- the calls before place `i` were made, and now the one at `i`
pub ran_next :
    (calls : List Call) (answers : List Answer) (call : Call) (answer : Answer) (i : ℕ) (s m t : State) → i < length calls → call ≡ get_or calls i call
    → Ran (map act (take i calls)) (map reply answers) s m → Answered (act call) (reply answer) m t
    → Ran (map act (take (i + 1) calls)) (map reply (answers ++ answer ∷ [])) s t
ran_next calls answers call answer i s m t l e h w =
    let longer : map act (take (i + 1) calls) ≡ map act (take i calls) ++ act call ∷ [] = map_more act calls i call l ∙ ap (λ z. map act (take i calls) ++ act z ∷ []) (sym e) in
    subst (λ (z : List Act). Ran z (map reply (answers ++ answer ∷ [])) s t) (sym longer)
    (subst (λ (z : List Reply). Ran (map act (take i calls) ++ act call ∷ []) z s t) (sym (map_push reply answers answer))
    (ran_more (map act (take i calls)) (map reply answers) (act call) (reply answer) s m t h w))

-- the calls before place `i` were made, and no more
pub ran_only : (calls : List Call) (rs : List Reply) (i : ℕ) (s m t : State) → i ≤ length calls - 1 → Ran (map act (take i calls)) rs s m → t ≡ m → Stopped (map act calls) s t
ran_only calls rs i s m t l h e =
    (i, rs, omega (arith, length-map calls act), subst (λ (z : List Act). Ran z rs s t) (sym (take-map act i calls)) (subst (λ (z : State). Ran (map act (take i calls)) rs s z) (sym e) h))

-- all of them were made
pub ran_all : (calls : List Call) (rs : List Reply) (i : ℕ) (s t : State) → length calls ≤ i → Ran (map act (take i calls)) rs s t → Ran (map act calls) rs s t
ran_all calls rs i s t l h = subst (λ (z : List Call). Ran (map act z) rs s t) (take_all i calls l) h
