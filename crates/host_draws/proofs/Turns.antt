-- One event more of a list of events with own draws: the sender, the generator and the replies. Assumes nothing.
use mathlib.Core.Path.{◌≡◌, refl, sym, ap, ◌∙◌}
use mathlib.Core.Bool.{false}
use mathlib.Core.List.{List, [], ◌∷◌, ◌++◌, append_assoc, append-nil}
use Prim.Native.Nat.{ℕ, zero, suc, ◌+◌, ◌*◌}
use native.Mathlib.Numerals.{add-one}
use native.Mathlib.Omega.{arith}
use lib.ListN.{length, take, drop, length-append}
use lib.Seq.{sets}
use Rattle.std.specs.Prelude.{Result}
use Rattle.refusal.specs.declared.Refusal.{Refusal}
use Rattle.rule_tree.specs.declared.RuleTree.{RuleTree}
use Rattle.wire.proofs.Stores.{wrote}
use Rattle.sender.specs.declared.Event.{Event}
use Rattle.sender.specs.declared.Event.TheVariants.{Ack, Send, Tick}
use Rattle.sender.specs.declared.Sender.{Sender}
use Rattle.sender.specs.declared.Held.{Held}
use Rattle.sender.specs.Sender.{replied_to, left_by}
use Rattle.xoshiro.specs.declared.State.{State}
use Rattle.xoshiro.specs.Xoshiro.{zeros_of}
use Rattle.own_draws.specs.declared.Drawing.{Drawing}
use Rattle.own_draws.specs.OwnRuns.{OwnCall, ack, own_reply_to, own_replies, own_end, generator_end, handing, steps_to}
use Rattle.own_draws.proofs.Same.{same_call, end_zeros}
use Rattle.host_sender.specs.Events.{event_at, reply_bytes}
use Rattle.host_sender.proofs.Running.{event_part, reply_count}
use Rattle.host_draws.specs.OwnEvents.{call_of, calls_in, replies_of}
use Rattle.host_draws.specs.Parts.{drawn_event}

-- ---- an event with a draw of a generator that is not four zeros
drawn_is : (t : RuleTree) (s : Sender) (g : State) → zeros_of g ≡ false → (e : Event) → drawn_event t s g e ≡ own_reply_to s g (call_of t e)
unfolding drawn_event call_of own_reply_to replied_to handing steps_to
drawn_is t s g z (Ack x) = sym (same_call s g (ack t x.sent x.received) z)
drawn_is t s g z (Send at) = refl
drawn_is t s g z Tick = refl

-- ---- one call more
module _ (c : OwnCall) where
  abbrev last : Sender → State → List OwnCall → Drawing
  last s g cs = own_reply_to (own_end s g cs) (generator_end s g cs) c

  end_more : (s : Sender) (g : State) (cs : List OwnCall) → own_end s g (cs ++ (c ∷ [])) ≡ left_by (own_end s g cs) (last s g cs).reply
  unfolding own_end generator_end
  end_more s g [] = refl
  end_more s g (b ∷ cs) = let d = own_reply_to s g b in end_more (left_by s d.reply) d.generator cs

  generator_more : (s : Sender) (g : State) (cs : List OwnCall) → generator_end s g (cs ++ (c ∷ [])) ≡ (last s g cs).generator
  unfolding own_end generator_end
  generator_more s g [] = refl
  generator_more s g (b ∷ cs) = let d = own_reply_to s g b in generator_more (left_by s d.reply) d.generator cs

  replies_more : (s : Sender) (g : State) (cs : List OwnCall) → own_replies s g (cs ++ (c ∷ [])) ≡ own_replies s g cs ++ ((last s g cs).reply ∷ [])
  unfolding own_replies own_end generator_end
  replies_more s g [] = refl
  replies_more s g (b ∷ cs) =
      let d = own_reply_to s g b in ap (λ (rs : List (Result Held Refusal)). d.reply ∷ rs) (replies_more (left_by s d.reply) d.generator cs)

replies_length : (s : Sender) (g : State) (cs : List OwnCall) → length (own_replies s g cs) ≡ length cs
unfolding own_replies
replies_length s g [] = refl
replies_length s g (c ∷ cs) = let d = own_reply_to s g c in ap suc (replies_length (left_by s d.reply) d.generator cs)

bytes_more : (rs : List (Result Held Refusal)) (r : Result Held Refusal) → replies_of (rs ++ (r ∷ [])) ≡ replies_of rs ++ reply_bytes r
unfolding replies_of
bytes_more [] r = append-nil (reply_bytes r)
bytes_more (x ∷ rs) r = ap (λ (z : List ℕ). reply_bytes x ++ z) (bytes_more rs r) ∙ sym (append_assoc (reply_bytes x) (replies_of rs) (reply_bytes r))

bytes_length : (rs : List (Result Held Refusal)) → length (replies_of rs) ≡ 6 * length rs
unfolding replies_of
bytes_length [] = refl
bytes_length (r ∷ rs) =
    let h = bytes_length rs in
    let c = reply_count r in
    length-append (reply_bytes r) (replies_of rs) ∙ omega arith

calls_length : (t : RuleTree) (events : List ℕ) (n : ℕ) → length (calls_in t events n) ≡ n
unfolding calls_in
calls_length t events zero = refl
calls_length t events (suc n) = let h = calls_length t events n in length-append (calls_in t events n) (call_of t (event_at events (22 * n)) ∷ []) ∙ omega arith

-- ---- the loop
module _ (t : RuleTree) (s : Sender) (g : State) (list : List ℕ) where
  abbrev calls : ℕ → List OwnCall
  calls n = calls_in t list n

  pub none_yet : (s ≡ own_end s g (calls 0)) × (g ≡ generator_end s g (calls 0))
  unfolding calls_in own_end generator_end
  none_yet = (refl, refl)

  pub none_put : (out : List ℕ) → out ≡ sets out 0 (replies_of (own_replies s g (calls 0)))
  unfolding calls_in own_replies replies_of
  none_put out = refl

  calls_suc : (n : ℕ) → calls (suc n) ≡ calls n ++ (call_of t (event_at list (22 * n)) ∷ [])
  unfolding calls_in
  calls_suc n = refl

  pub replies_count : (n : ℕ) → length (replies_of (own_replies s g (calls n))) ≡ 6 * n
  replies_count n =
      let a = bytes_length (own_replies s g (calls n)) in
      let b = replies_length s g (calls n) in
      let c = calls_length t list n in
      omega arith

  module _ (z : zeros_of g ≡ false) (i m : ℕ) (w : m ≡ 22) {u : Sender} {h : State} {x : Event} {r : Drawing} (p : u ≡ own_end s g (calls i))
      (q : h ≡ generator_end s g (calls i)) (d : x ≡ event_at (take m (drop (22 * i) list)) 0) (a : r ≡ drawn_event t u h x)
    where
      abbrev call : OwnCall
      call = call_of t (event_at list (22 * i))

      abbrev at : Drawing
      at = last call s g (calls i)

      event_is : x ≡ event_at list (22 * i)
      event_is = d ∙ event_part list (22 * i) m w

      zeros_not : zeros_of h ≡ false
      zeros_not = ap zeros_of q ∙ end_zeros s g (calls i) z

      reply_is : r ≡ at
      reply_is = a ∙ drawn_is t u h zeros_not x ∙ (λ j. own_reply_to (p j) (q j) (call_of t (event_is j)))

      more : calls (i + 1) ≡ calls i ++ (call ∷ [])
      more = ap calls (add-one i) ∙ calls_suc i

      pub sender_turn : {v : Sender} → v ≡ left_by u r.reply → v ≡ own_end s g (calls (i + 1))
      sender_turn b =
          b ∙ (λ j. left_by (p j) (reply_is j).reply) ∙ sym (end_more call s g (calls i)) ∙ ap (own_end s g) (sym more)

      pub generator_turn : r.generator ≡ generator_end s g (calls (i + 1))
      generator_turn =
          ap (λ (y : Drawing). y.generator) reply_is ∙ sym (generator_more call s g (calls i)) ∙ ap (generator_end s g) (sym more)

      pub replies_turn : (out : List ℕ) {o v : List ℕ} → o ≡ sets out 0 (replies_of (own_replies s g (calls i))) → v ≡ sets o (6 * i) (reply_bytes r.reply)
          → v ≡ sets out 0 (replies_of (own_replies s g (calls (i + 1))))
      replies_turn out {o} b c =
          let rs = own_replies s g (calls i) in
          wrote out o 0 (6 * i) (replies_of rs) (reply_bytes r.reply)
          (c ∙ ap (λ (k : ℕ). sets o k (reply_bytes r.reply)) (let y : 6 * i ≡ 0 + 6 * i = omega arith in y)) b (replies_count i)
          ∙ ap (λ (y : Drawing). sets out 0 (replies_of rs ++ reply_bytes y.reply)) reply_is
          ∙ ap (sets out 0) (sym (bytes_more rs at.reply) ∙ ap replies_of (sym (replies_more call s g (calls i)) ∙ ap (own_replies s g) (sym more)))
