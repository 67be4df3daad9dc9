-- The settings and the trainer that bytes stand for fit their types. Assumes nothing.
use mathlib.Core.Path.{◌≡◌, sym, subst}
use mathlib.Core.Bool.{Bool, true, false, cond}
use mathlib.Core.List.{List, [], ◌∷◌}
use Prim.Native.Nat.{ℕ, ◌+◌}
use native.Mathlib.Omega.{arith}
use lib.Dec.{T, ltb}
use lib.Ieee.{binary64, fits}
use lib.Ieee.Bits.{of_bits-fits}
use mir.Syntax.{w32}
use mir.ValLaws.{to_z-Fits}
use Rattle.std.specs.Prelude.{Ok}
use Rattle.refusal.specs.declared.Refusal.TheVariants.{BadField, BadLength, UnknownVersion}
use Rattle.refusal.specs.Guards.{check, checked}
use Rattle.remy.specs.Cube as cube
use Rattle.rule_tree.specs.declared.Node.{Node}
use Rattle.rule_tree.specs.Nodes.{no_node, no_action, blank_node, node_count, node_holding, action_in}
use Rattle.rule_tree.proofs.Plain.{ActionFits, PointFits}
use Rattle.rule_tree.proofs.Lists.{length_tabulate, get_d_tabulate}
use Rattle.trainer.specs.declared.Trainer.{Trainer}
use Rattle.wire.specs.Bytes.{number_at}
use Rattle.record.specs.declared.inner.layout.Layout.{Layout}
use Rattle.record.specs.Layout.{layout_of, given_action, list_place, state_place}
use Rattle.wire.specs.Fields.{action_at, flag_at, point_at}
use Rattle.record.specs.Read.{settings_at, ends_at, split_count, link_of, carried_at, payload_place, node_at_place, read_in, version_at, read_of}
use Rattle.record.specs.Calls.{length_holds, version_holds, body_holds, load_of}
use Rattle.record.proofs.NumbersAgain.{Bytes, number_below}
use Rattle.record.proofs.Stands.{SettingsFits}
use Rattle.record.proofs.RoundTrip.{TrainerFits}

-- ---- settings
action_fits : (bytes : List ℕ) (at : ℕ) → Bytes bytes → ActionFits (action_at bytes at)
action_fits bytes at h =
    record {
      multiplier = of_bits-fits binary64 (number_at bytes at 8);
      increment = to_z-Fits w32 (number_at bytes (at + 8) 4) (record { fits = number_below bytes (at + 8) 4 h });
      delay = of_bits-fits binary64 (number_at bytes (at + 12) 8);
    }

-- the upper ends
pub ends-fit : PointFits cube.usual_ends
unfolding fits
ends-fit = record { acks = tt; sends = tt; ratios = tt }

ends_read_fit : (lay : Layout) (bytes : List ℕ) (at : ℕ) → PointFits (ends_at lay bytes at)
ends_read_fit lay bytes at = go lay.ends
  where
    go : (b : Bool) → PointFits (cond b (point_at bytes at) cube.usual_ends)
    go true =
        record {
          acks = of_bits-fits binary64 (number_at bytes at 8);
          sends = of_bits-fits binary64 (number_at bytes (at + 8) 8);
          ratios = of_bits-fits binary64 (number_at bytes (at + 16) 8);
        }
    go false = ends-fit

pub settings_fits : (lay : Layout) (bytes : List ℕ) (at : ℕ) → Bytes bytes → SettingsFits (settings_at lay bytes at)
settings_fits lay bytes at h =
    record {
      splits = number_below bytes at 4 h;
      rounds = number_below bytes (at + 4) 4 h;
      multiplier = number_below bytes (at + 8) 4 h;
      min = action_fits bytes (at + 13) h;
      max = action_fits bytes (at + 33) h;
      initial = action_fits bytes (at + 53) h;
      most = action_fits bytes (at + 73) h;
      default = action_fits bytes (at + 93) h;
      ends = ends_read_fit lay bytes (at + 113);
    }

-- ---- what is not read
pub zero-fits : T (fits binary64 cube.zero)
unfolding fits
zero-fits = tt

pub plain_fits : ActionFits no_action
plain_fits = record { multiplier = zero-fits; increment = record { sfits = omega arith }; delay = zero-fits }

-- ---- a trainer that is read from bytes
given_fits : (lay : Layout) (bytes : List ℕ) → Bytes bytes → ActionFits (given_action (settings_at lay bytes 5))
given_fits lay bytes h = (settings_fits lay bytes 5 h).default

place_fits_lem : (lay : Layout) (bytes : List ℕ) (s i : ℕ) → Bytes bytes → ActionFits (action_in (node_at_place lay (given_action (settings_at lay bytes 5)) bytes s i))
unfolding node_at_place
place_fits_lem lay bytes s i h = go (ltb i (node_count s)) (carried_at lay bytes s i)
  where
    go : (b c : Bool)
        → ActionFits
        (action_in
        (cond b
        (cond c
        (node_holding (action_at bytes (payload_place lay bytes s i)) (link_of bytes (list_place lay) s i) (flag_at bytes (payload_place lay bytes s i + 20)))
        (node_holding (given_action (settings_at lay bytes 5)) (link_of bytes (list_place lay) s i) false))
        blank_node))
    go true true = action_fits bytes (payload_place lay bytes s i) h
    go true false = given_fits lay bytes h
    go false c = plain_fits

-- in every layout
read_fits : (lay : Layout) (bytes : List ℕ) → Bytes bytes → TrainerFits (read_in lay bytes)
read_fits lay bytes h =
    let s = split_count lay bytes in
    let at = state_place lay s in
    let node = node_at_place lay (given_action (settings_at lay bytes 5)) bytes s in
    record {
      settings = settings_fits lay bytes 5 h;
      tree =
          record {
            full = length_tabulate 513 node;
            ends = ends_read_fit lay bytes 118;
            actions = λ i l.
                subst (λ (x : Node). ActionFits (action_in x)) (sym (get_d_tabulate 513 i node no_node l)) (place_fits_lem lay bytes s i h);
          };
      stage = number_below bytes (at + 1) 4 h;
      round = number_below bytes (at + 5) 4 h;
      leaf = number_below bytes (at + 9) 2 h;
      best = of_bits-fits binary64 (number_at bytes (at + 11) 8);
      k = number_below bytes (at + 19) 2 h;
      kept = number_below bytes (at + 21) 2 h;
      score = of_bits-fits binary64 (number_at bytes (at + 23) 8);
    }

pub loaded_is : (bytes : List ℕ) (t : Trainer) → load_of bytes ≡ Ok t → read_of bytes ≡ t
unfolding load_of
loaded_is bytes t e = go (length_holds bytes) (version_holds bytes) (body_holds bytes) e
  where
    go : (l v b : Bool) → checked (check l BadLength ∷ check v UnknownVersion ∷ check b BadField ∷ []) (Ok (read_of bytes)) ≡ Ok t → read_of bytes ≡ t
    go true true true q = cc
    go true true false q = absurd (cc)
    go true false b q = absurd (cc)
    go false v b q = absurd (cc)

pub loaded_fits : (bytes : List ℕ) (t : Trainer) → Bytes bytes → load_of bytes ≡ Ok t → TrainerFits t
loaded_fits bytes t h e = subst TrainerFits (loaded_is bytes t e) (read_fits (layout_of (version_at bytes)) bytes h)
