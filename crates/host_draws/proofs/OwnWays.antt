-- What taken events with own draws leave. Assumes nothing.
use mathlib.Core.Path.{◌≡◌, refl, ap, ◌∙◌}
use mathlib.Core.Bool.{true, ◌&&◌}
use mathlib.Core.List.{List}
use mathlib.Core.Logic.{⊎_elim}
use Prim.Native.Nat.{ℕ, ◌*◌, ◌/◌, ◌%◌, ◌≤◌}
use borrow.Author.Tests.{eq-eqb, le-leb, eqb-true}
use lib.Dec.{eqb}
use lib.ListN.{length}
use lib.Seq.{sets}
use Rattle.std.specs.Prelude.{Result, Ok, Err}
use Rattle.refusal.specs.declared.Refusal.{Refusal}
use Rattle.refusal.specs.Guards.{checked}
use Rattle.rule_tree.specs.declared.RuleTree.{RuleTree}
use Rattle.rule_tree.proofs.Plain.{and_l, and_r}
use Rattle.sender.specs.declared.Sender.{Sender}
use Rattle.xoshiro.specs.declared.State.{State}
use Rattle.own_draws.specs.OwnRuns.{own_replies, own_end, generator_end}
use Rattle.host_sender.specs.Layout.{sender_bytes, sender_at}
use Rattle.host_sender.proofs.EventWays.{written_all}
use Rattle.host_draws.specs.Steps.{state_at, state_bytes, words_order}
use Rattle.host_draws.proofs.Steps.{state_held, state_refused}
use Rattle.host_draws.specs.OwnEvents.{all_calls, replies_of, whole_of, played_in, played_sender, played_generator, played_replies}

module _ (a b c : ℕ) (w : whole_of a b c ≡ true) where
  pub sender_whole : a ≡ 108
  unfolding whole_of
  sender_whole = eqb-true a 108 (and_l (eqb a 108) (eqb b 32 && eqb (c % 22) 0) w)

  pub generator_whole : b ≡ 32
  unfolding whole_of
  generator_whole = eqb-true b 32 (and_l (eqb b 32) (eqb (c % 22) 0) (and_r (eqb a 108) (eqb b 32 && eqb (c % 22) 0) w))

module _ (t : RuleTree) (sender generator events out : List ℕ) (w : whole_of (length sender) (length generator) (length events) ≡ true)
    {a : Result State Refusal} (e : a ≡ checked (words_order generator) (Ok (state_at generator))) where
  -- what a call leaves
  abbrev Left : Result ℕ Refusal → List ℕ → List ℕ → List ℕ → Type 0
  Left r s g o =
      (r ≡ played_in sender generator events out) × ((s ≡ played_sender t sender generator events out)
      × ((g ≡ played_generator t sender generator events out) × (o ≡ played_replies t sender generator events out)))

  pub played_refused : {r : Refusal} {x : Result ℕ Refusal} → a ≡ Err r → x ≡ Err r → Left x sender generator out
  unfolding played_in played_sender played_generator played_replies
  played_refused z y =
      ⊎_elim (λ h. absurd (let n = generator_whole (length sender) (length generator) (length events) w in cc (eq-eqb (length generator) 32 n)))
      (λ h. rw (w, h.1) (y ∙ ap (λ (k : Refusal). Err k) h.2, (refl, (refl, refl))))
      (state_refused generator e z)

  module _ {g : State} (is : a ≡ Ok g) where
    pub played_taken : {v : RuleTree} → v ≡ t → {s u : Sender} {h : State} {s2 g2 o2 : List ℕ} → 6 * (length events / 22) ≤ length out → s ≡ sender_at sender
        → (u ≡ own_end s g (all_calls v events)) × ((h ≡ generator_end s g (all_calls v events)) × (o2 ≡ sets out 0 (replies_of (own_replies s g (all_calls v events)))))
        → s2 ≡ sets sender 0 (sender_bytes u) → g2 ≡ state_bytes h → Left (Ok (6 * (length events / 22))) s2 g2 o2
    unfolding played_in played_sender played_generator played_replies
    played_taken {v} same {s} {u} room es p q f =
        let k = state_held generator e is in
        rw (w, k.1, le-leb (6 * (length events / 22)) (length out) room) (
          refl,
          (
            written_all sender (sender_whole (length sender) (length generator) (length events) w) u q ∙ ap sender_bytes (p.0 ∙ (λ j. own_end (es j) (k.2 j) (all_calls (same j) events))),
            (
              f ∙ ap state_bytes (p.1.0 ∙ (λ j. generator_end (es j) (k.2 j) (all_calls (same j) events))),
              p.1.1 ∙ (λ j. sets out 0 (replies_of (own_replies (es j) (k.2 j) (all_calls (same j) events)))),
            ),
          ),
        )
