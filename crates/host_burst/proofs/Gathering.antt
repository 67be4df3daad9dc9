-- The loop that gathers a burst's acks: none yet, one more, and all. Assumes nothing.
use mathlib.Core.Path.{◌≡◌, refl, ap, ◌∙◌}
use mathlib.Core.List.{List, [], ◌∷◌, ◌++◌}
use Prim.Native.Nat.{ℕ, ◌+◌, ◌*◌}
use native.Mathlib.Numerals.{add-one}
use Rattle.rule_tree.specs.Lists.{tabulate}
use Rattle.sender.specs.declared.Ack.{Ack}
use Rattle.host_sender.specs.Events.{ack_at}
use Rattle.host_burst.specs.Bursts.{ack_count, acks_of}

-- the first n acks of the list
unfoldable pub first_acks : List ℕ → ℕ → List Ack
first_acks list n = tabulate n (λ i. ack_at list (21 * i))

pub none : (list : List ℕ) → [] ≡ first_acks list 0
unfolding first_acks tabulate
none list = refl

pub one_more : (list : List ℕ) (acks : List Ack) (i : ℕ) (x : Ack) → acks ≡ first_acks list i → x ≡ ack_at list (21 * i) → acks ++ (x ∷ []) ≡ first_acks list (i + 1)
unfolding first_acks tabulate
one_more list acks i x e f = rw (add-one i) (λ j. e j ++ (f j ∷ []))

pub all : (list : List ℕ) (n : ℕ) {acks : List Ack} → n ≡ ack_count list → acks ≡ first_acks list n → acks ≡ acks_of list
unfolding first_acks
all list n e p = p ∙ ap (λ (k : ℕ). tabulate k (λ i. ack_at list (21 * i))) e
