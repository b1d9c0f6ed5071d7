-- A byte string under way: every round brings it further, and the rounds add up.
use Rattle.std.proofs.Common.{◌≡◌, ℕ, suc, ◌+◌, ◌-◌, ◌<◌, ◌≤◌, min, List, [], ◌∷◌, ◌++◌, length, take, drop, sym, refl, ap, ◌∙◌, subst, add-zero, zero-add, arith}
use borrow.Rule.Slice.PartMut.{put_mid}
use Rattle.std.proofs.lemmas.List.{drop_all, drop_at, drop-drop, length-append, length-drop, length-take, length-take-le, take_all, take-append-drop, take_at, take_rest, same_lists, places}
use Rattle.line.specs.Rules.{State, Within, Opens, Wrote, Read, Flushed}
use Rattle.transfer.specs.declared.trip.Trip.{Trip}
use Rattle.transfer.specs.Runs.{Ran, Received, write, flush, took, done}
use Rattle.transfer.specs.Rounds.{Rounds, Advanced, Carried}

-- How far a line has come: it has taken `sent` of the bytes and given `got` of those, which lie at
-- the start of the memory `into`.
pub record Underway (bytes into₀ : List ℕ) (trip : Trip) (into : List ℕ) (state : State) : Type 0 where
  pub sent_most : trip.sent ≤ length bytes
  pub got_most : trip.got ≤ trip.sent
  pub queued : state.queue ≡ drop trip.got (take trip.sent bytes)
  pub arrived : into ≡ take trip.got bytes ++ drop trip.got into₀

-- a read into the part `got..end` of the memory
placed :
    (into q part : List ℕ) (got end n : ℕ) → end ≤ length into → got ≤ end → n ≤ end - got → part ≡ take n q ++ drop n (take (end - got) (drop got into))
    → put_mid got (end - got) into part ≡ take got into ++ (take n q ++ drop (got + n) into)
placed into q part got end n a b l e =
    same_lists _ _ (grind (arith, places)) (λ i d h. grind (arith, places))

-- a write and a flush, and then a read, are a round
pub advanced :
    (bytes into part : List ℕ) (trip : Trip) (taken n : ℕ) (s o t : State) → trip.got ≤ length bytes → length bytes ≤ length into
    → Ran (write (take (length bytes - trip.sent) (drop trip.sent bytes)) ∷ flush ∷ []) (took taken ∷ done ∷ []) s o
    → Within o.queue o.ready → Read (take (length bytes - trip.got) (drop trip.got into)) n part o t
    → Advanced bytes trip (record { sent = trip.sent + taken; got = trip.got + n }) into (put_mid trip.got (length bytes - trip.got) into part) s t
advanced bytes into part trip taken n s o t a b w l r =
    let sent = trip.sent in
    let got = trip.got in
    let k = length bytes - got in
    let part-long : length (take k (drop got into)) ≡ k = simp (length-take, length-drop) (omega arith) in
    let count : n ≡ min k o.ready = r.count ∙ ap (λ z. min z o.ready) part-long in
    let new = take n o.queue in
    let long : length new ≡ n = length-take-le n o.queue (omega arith) in
    let m = w.0 in
    let wrote : Wrote (drop sent bytes) taken s m = subst (λ (z : List ℕ). Wrote z taken s m) (take_rest bytes sent) w.1 in
    let flushed : Flushed m o = subst (λ (z : State). Flushed m z) w.2.2 w.2.1 in
    let got-new : Received k new o t = record { count = long ∙ count; split = sym (take-append-drop n o.queue) ∙ ap (λ z. new ++ z) (sym r.queued) } in
    record {
      taken = taken;
      new = new;
      round = (m, wrote, (o, flushed, (t, got-new, refl)));
      sent_is = refl;
      got_is = ap (λ z. got + z) (sym long);
      into_is = placed into o.queue part got (length bytes) n b a (omega arith) r.moved;
    }

-- what is queued goes on with what is taken
queue_on : (bytes : List ℕ) (sent got taken : ℕ) → got ≤ sent → sent ≤ length bytes → drop got (take sent bytes) ++ take taken (drop sent bytes) ≡ drop got (take (sent + taken) bytes)
queue_on bytes sent got taken a b = same_lists _ _ (grind (arith, places)) (λ i d h. grind (arith, places))

-- what has arrived goes on with what is new
into_on :
    (bytes into₀ into new : List ℕ) (got more : ℕ) → got ≤ length bytes → got + length new ≡ more → into ≡ take got bytes ++ drop got into₀ → new ≡ take (length new) (drop got bytes)
    → take got into ++ (new ++ drop more into) ≡ take more bytes ++ drop more into₀
into_on bytes into₀ into new got more a e h k =
    same_lists _ _ (grind (arith, places)) (λ i d u. grind (arith, places))

-- the oldest of the bytes under way
front_of : (bytes : List ℕ) (got sent n : ℕ) → got + n ≤ sent → take n (drop got (take sent bytes)) ≡ take n (drop got bytes)
front_of bytes got sent n l = same_lists _ _ (grind (arith, places)) (λ i d h. grind (arith, places))

-- A round keeps the bytes in order, and at least one of them arrives: something was queued, or the
-- empty line took some; and flushed, the line gives some.
underway_more :
    (bytes into₀ into into' : List ℕ) (trip trip' : Trip) (s t : State) → length bytes ≤ length into₀ → trip.got < length bytes → Opens s.queue s.room
    → Underway bytes into₀ trip into s → Advanced bytes trip trip' into into' s t → Underway bytes into₀ trip' into' t × (trip.got < trip'.got)
underway_more bytes into₀ into into' trip trip' s t a l opens u v =
    let sent = trip.sent in
    let got = trip.got in
    let sent' = trip'.sent in
    let got' = trip'.got in
    let m = v.round.0 in
    let o = v.round.2.0 in
    let wrote = v.round.1 in
    let flushed = v.round.2.1 in
    let read = v.round.2.2 in
    let taken = v.taken in
    let new = v.new in
    let q = drop got (take (sent + taken) bytes) in
    let sent_most = u.sent_most in
    let got_most = u.got_most in
    let sent_is = v.sent_is in
    let got_is = v.got_is in
    let left : length (drop sent bytes) ≡ length bytes - sent = length-drop sent bytes in
    let held : length s.queue ≡ sent - got = ap length u.queued ∙ simp (length-drop, length-take) (omega arith) in
    let count : taken ≡ min (length (drop sent bytes)) s.room = wrote.count in
    let queue : m.queue ≡ q = wrote.queued ∙ ap (λ z. z ++ take taken (drop sent bytes)) u.queued ∙ queue_on bytes sent got taken got_most sent_most in
    let long : length q ≡ sent + taken - got = simp (length-drop, length-take) (omega arith) in
    let some : 1 ≤ length m.queue = omega (arith, ap length queue) in
    let wakes : 1 ≤ o.ready = flushed.wakes some in
    let fresh : length new ≡ min (length bytes - got) o.ready = read.1.count in
    let split : q ≡ new ++ t.queue = sym queue ∙ sym flushed.queued ∙ read.1.split ∙ ap (λ (z : State). new ++ z.queue) read.2 in
    let within : length new ≤ length q = omega (arith, ap length split, length-append new t.queue) in
    let first : new ≡ take (length new) (drop got bytes) = sym (take_at new t.queue (length new) refl) ∙ ap (take (length new)) (sym split) ∙ front_of bytes got (sent + taken) (length new) (omega arith) in
    let rest : t.queue ≡ drop got' (take sent' bytes) =
    sym (drop_at new t.queue (length new) refl)
    ∙ ap (drop (length new)) (sym split)
    ∙ drop-drop (length new) got (take (sent + taken) bytes)
    ∙ ap (λ z. drop z (take (sent + taken) bytes)) (sym got_is)
    ∙ ap (λ z. drop got' (take z bytes)) (sym sent_is) in (
      record {
        sent_most = omega arith;
        got_most = omega arith;
        queued = rest;
        arrived = v.into_is ∙ into_on bytes into₀ into new got got' (omega arith) (sym got_is) u.arrived first;
      },
      omega arith,
    )

-- a byte string under way for `rounds` rounds, and how the rounds to come go on from those
pub record Travelling (bytes into₀ : List ℕ) (s₀ : State) (trip : Trip) (rounds : ℕ) (into : List ℕ) (s : State) : Type 0 where
  pub underway : Underway bytes into₀ trip into s
  pub few : rounds ≤ trip.got
  pub history : (n : ℕ) (t : State) → Rounds n bytes trip.sent trip.got s t → Rounds (rounds + n) bytes 0 0 s₀ t

-- before the first round
pub setting_out : (bytes into : List ℕ) (s : State) → s.queue ≡ [] → Travelling bytes into s (record { sent = 0; got = 0 }) 0 into s
setting_out bytes into s e =
    record {
      underway = record { sent_most = omega arith; got_most = omega arith; queued = e; arrived = refl };
      few = omega arith;
      history = λ n t h. subst (λ (k : ℕ). Rounds k bytes 0 0 s t) (sym (zero-add n)) h;
    }

-- one round more, in which at least one byte arrives
pub onward :
    (bytes into₀ into into' : List ℕ) (s₀ s t : State) (trip trip' : Trip) (rounds : ℕ) → length bytes ≤ length into₀ → trip.got < length bytes
    → Opens s.queue s.room → Travelling bytes into₀ s₀ trip rounds into s → Advanced bytes trip trip' into into' s t
    → Travelling bytes into₀ s₀ trip' (rounds + 1) into' t × (trip.got < trip'.got)
onward bytes into₀ into into' s₀ s t trip trip' rounds a l opens w v =
    let on = underway_more bytes into₀ into into' trip trip' s t a l opens w.underway v in
    let few = w.few in
    let further = on.1 in (
      record {
        underway = on.0;
        few = omega arith;
        history = λ n z h.
            let rest : Rounds n bytes (trip.sent + v.taken) (trip.got + length v.new) t z =
            subst (λ (k : ℕ). Rounds n bytes (trip.sent + v.taken) k t z) v.got_is (subst (λ (k : ℕ). Rounds n bytes k trip'.got t z) v.sent_is h) in
            subst (λ (k : ℕ). Rounds k bytes 0 0 s₀ z) (omega arith) (w.history (suc n) z (l, v.taken, v.new, t, v.round, rest));
      },
      further,
    )

-- where all have arrived, they are all there is
pub arrived :
    (bytes into₀ into : List ℕ) (s₀ s : State) (trip : Trip) (rounds : ℕ) → length bytes ≤ trip.got → Travelling bytes into₀ s₀ trip rounds into s → Carried rounds bytes into₀ into s₀ s
arrived bytes into₀ into s₀ s trip rounds l w =
    let u = w.underway in
    let sent_most = u.sent_most in
    let got_most = u.got_most in
    let few = w.few in
    let all : trip.got ≡ length bytes = omega arith in
    record {
      arrived = u.arrived ∙ ap (λ z. take z bytes ++ drop z into₀) all ∙ ap (λ z. z ++ drop (length bytes) into₀) (take_all (length bytes) bytes (omega arith));
      soon = omega arith;
      emptied = u.queued ∙ drop_all trip.got (take trip.sent bytes) (simp length-take (omega arith));
      history = subst (λ (n : ℕ). Rounds n bytes 0 0 s₀ s) (add-zero rounds) (w.history 0 s (l, refl));
    }
