-- The parts that the plain trainer writes are the record's: actions, settings, the splits' nodes, a node's action and mark. Assumes nothing.
use mathlib.Core.Path.{◌≡◌, refl, sym, ap, ◌∙◌}
use mathlib.Core.Bool.{Bool, true, cond}
use mathlib.Core.List.{List, [], ◌∷◌, ◌++◌, map, append_assoc, append-nil}
use Prim.Native.Nat.{ℕ}
use mir.Syntax.{w32}
use mir.Val.{of_z}
use Rattle.remy.specs.declared.action.Action.{Action}
use Rattle.remy.specs.Cube.{ack, send, ratio}
use Rattle.trainer.specs.declared.settings.Settings.{Settings}
use Rattle.wire.specs.Bytes.{bytes_of, flag_byte, shorts_bytes}
use Rattle.wire.specs.Fields.{float_bytes, action_bytes, point_bytes}
use Rattle.record.specs.declared.inner.layout.Layout.{Layout}
use Rattle.record.specs.Write.{settings_bytes, end_bytes, node_bytes}
use Rattle.promise.specs.PlainTree.{Rule}
use Rattle.promise.specs.PlainRecord.{joined, u16, bits8, action_part, settings_part, ends_part, rule_part}
use Rattle.promise.proofs.Embed.{node_with}

pub action_part_lem : (a : Action) → action_part a ≡ action_bytes a
action_part_lem a =
    ap (λ (xs : List ℕ). float_bytes a.window_multiplier ++ (bytes_of 4 (of_z w32 a.window_increment) ++ xs))
    (append-nil (float_bytes a.intersend_delay.0))

-- five fields that end a row
five_fields :
    (row : List ℕ → List ℕ) (a b c d e k l m n o : List ℕ) → a ≡ k → b ≡ l → c ≡ m → d ≡ n → e ≡ o
    → row (joined (a ∷ b ∷ c ∷ d ∷ e ∷ [])) ≡ row (k ++ (l ++ (m ++ (n ++ o))))
five_fields row a b c d e k l m n o p q r s t =
    rw (p, q, r, s, t) (ap (λ (xs : List ℕ). row (k ++ (l ++ (m ++ (n ++ xs))))) (append-nil o))

pub settings_part_lem : (s : Settings) → settings_part s ≡ settings_bytes s
settings_part_lem s =
    five_fields
    (λ (xs : List ℕ). bytes_of 4 s.rule_splits ++ (bytes_of 4 s.optimization_rounds_per_split ++ (bytes_of 4 s.action_change_multiplier ++ (flag_byte s.drill_down ∷ xs))))
    _ _ _ _ _ _ _ _ _ _ (action_part_lem s.min_action) (action_part_lem s.max_action) (action_part_lem s.initial_action_change)
    (action_part_lem s.max_action_change) (action_part_lem s.default_action)

pub ends_part_lem : (lay : Layout) (s : Settings) → lay.ends ≡ true → ends_part s ≡ end_bytes lay s
ends_part_lem lay s e = ap (λ (xs : List ℕ). bits8 (ack s.ends) ++ (bits8 (send s.ends) ++ xs)) (append-nil (bits8 (ratio s.ends))) ∙ ap (λ (b : Bool). cond b (point_bytes s.ends) []) (sym e)

pub numbers_part : (xs : List ℕ) → joined (map u16 xs) ≡ shorts_bytes xs
unfolding shorts_bytes
numbers_part [] = refl
numbers_part (x ∷ xs) = ap (λ (bs : List ℕ). bytes_of 2 x ++ bs) (numbers_part xs)

pub rule_part_lem : (r : Rule) (c : ℕ) → rule_part r ≡ node_bytes (node_with r c)
rule_part_lem r c = ap (λ (bs : List ℕ). bs ++ (flag_byte r.marked ∷ [])) (action_part_lem r.action)

-- rules, by the last one
pub rules_last : (rs : List Rule) (r : Rule) → joined (map rule_part rs) ++ rule_part r ≡ joined (map rule_part (rs ++ (r ∷ [])))
rules_last [] r = sym (append-nil (rule_part r))
rules_last (q ∷ rs) r = append_assoc (rule_part q) (joined (map rule_part rs)) (rule_part r) ∙ ap (λ (bs : List ℕ). rule_part q ++ bs) (rules_last rs r)
