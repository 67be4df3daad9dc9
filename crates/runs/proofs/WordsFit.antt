-- Floats read from words are binary64 values: so are the settings of a script and the scores of its calls. Assumes nothing.
use mathlib.Core.Bool.{Bool, true, false, cond}
use mathlib.Core.List.{List, [], ◌∷◌}
use Prim.Native.Nat.{ℕ, zero, suc, ◌+◌}
use lib.Dec.{T, eqb}
use lib.ListN.{length, drop}
use Rattle.refusal.proofs.Guards.{either}
use Rattle.floats.proofs.Bits.{read_fits}
use Rattle.promise.specs.Values.{Every, FitAction, FitSettings, FitCall}
use Rattle.runs.specs.Script.{word, action, settings, settings_at, Item, train, ack, send, tick, lookup, size_of, item_of, whole_of, items_of, calls_of}

action_fits : (ws : List ℕ) (i : ℕ) → FitAction (action ws i)
action_fits ws i = record { multiplier = read_fits (word ws i); delay = read_fits (word ws (i + 2)) }

settings_at_fit : (ws : List ℕ) (i e : ℕ) → FitSettings (settings_at ws i e)
settings_at_fit ws i e =
    record {
      least = action_fits ws (i + 4);
      most = action_fits ws (i + 7);
      initial = action_fits ws (i + 10);
      largest = action_fits ws (i + 13);
      default = action_fits ws (i + 16);
      ends = record { acks = read_fits (word ws e); sends = read_fits (word ws (e + 1)); ratios = read_fits (word ws (e + 2)) };
    }

pub settings_fit_lem : (ws : List ℕ) → FitSettings (settings ws)
settings_fit_lem ws = settings_at_fit ws 0 43

-- ---- calls
abbrev pub FitItem : Item → Type 0
FitItem (train c) = FitCall c
FitItem (ack sent received draw) = T true
FitItem (send at) = T true
FitItem tick = T true
FitItem (lookup p) = T true

item_fits : (ws : List ℕ) → FitItem (item_of ws)
unfolding item_of
item_fits ws =
    let code = word ws 0 in
    either FitItem (eqb code 1) tt
    (either FitItem (eqb code 2) (read_fits (word ws 1))
    (either FitItem (eqb code 3) tt
    (either FitItem (eqb code 4) tt
    (either FitItem (eqb code 5) tt (either FitItem (eqb code 6) tt (either FitItem (eqb code 15) (settings_at_fit ws 1 20) tt))))))

items_fit : (n : ℕ) (ws : List ℕ) → Every FitItem (items_of n ws)
unfolding items_of
items_fit zero ws = tt
items_fit (suc n) ws = go (whole_of ws) (items_fit n (drop (size_of ws) ws))
  where
    go : (b : Bool) → Every FitItem (items_of n (drop (size_of ws) ws)) → Every FitItem (cond b (item_of ws ∷ items_of n (drop (size_of ws) ws)) [])
    go true h = (item_fits ws, h)
    go false h = tt

pub calls_fit : (ws : List ℕ) → Every FitItem (calls_of ws)
calls_fit ws = items_fit (length ws) (drop 46 ws)
