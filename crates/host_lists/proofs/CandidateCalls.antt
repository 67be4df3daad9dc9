-- The candidates of an action, by the settings that the bytes are. Assumes nothing.
use mathlib.Core.Path.{◌≡◌, refl, sym, ap, ◌∙◌}
use mathlib.Core.Bool.{Bool, true, false, cond}
use mathlib.Core.List.{List}
use Prim.Native.Nat.{ℕ}
use Rattle.std.specs.Prelude.{Result, Ok, Err}
use Rattle.refusal.specs.declared.Refusal.{Refusal}
use Rattle.refusal.specs.declared.Refusal.TheVariants.{BadSettings}
use Rattle.refusal.specs.Guards.{pass}
use Rattle.trainer.specs.declared.settings.Settings.{Settings}
use Rattle.trainer.specs.Settings.{settings_hold}
use Rattle.host_trainer.specs.Records.{settings_whole, settings_in, settings_of}
use Rattle.host_lists.specs.Lists.{candidates_in, candidates_after}
use Rattle.host_lists.specs.Parts.{candidates_with, candidates_with_after}

module _ (settings action out : List ℕ) {a : Result Settings Refusal} (read : a ≡ settings_of settings) where
  unread : (r : Refusal) → a ≡ Err r → (settings_whole settings ≡ false) × (r ≡ BadSettings)
  unfolding settings_of
  unread r e = go (settings_whole settings) refl (sym read ∙ e)
    where
      go : (b : Bool) → settings_whole settings ≡ b → ◌≡◌ {A = Result Settings Refusal} (cond b (Ok (settings_in settings)) (Err BadSettings)) (Err r)
          → (settings_whole settings ≡ false) × (r ≡ BadSettings)
      go true p q = absurd (cc)
      go false p q = (p, cc)

  whole : (s : Settings) → a ≡ Ok s → (settings_whole settings ≡ true) × (settings_in settings ≡ s)
  unfolding settings_of
  whole s e = go (settings_whole settings) refl (sym read ∙ e)
    where
      go : (b : Bool) → settings_whole settings ≡ b → ◌≡◌ {A = Result Settings Refusal} (cond b (Ok (settings_in settings)) (Err BadSettings)) (Ok s)
          → (settings_whole settings ≡ true) × (settings_in settings ≡ s)
      go true p q = (p, cc)
      go false p q = absurd (cc)

  pub candidates_unread : {r : Refusal} {x : Result ℕ Refusal} → a ≡ Err r → x ≡ Err r → (x ≡ candidates_in settings action out) × (out ≡ candidates_after settings action out)
  unfolding candidates_in candidates_after pass
  candidates_unread {r} e f =
      let u = unread r e in
      (rw u.0 (f ∙ ap (λ (z : Refusal). Err z) u.1), rw u.0)

  module _ {s : Settings} (is : a ≡ Ok s) where
    pub candidates_bad : settings_hold s ≡ false → (Err BadSettings ≡ candidates_in settings action out) × (out ≡ candidates_after settings action out)
    unfolding candidates_in candidates_after pass
    candidates_bad h =
        let u = whole s is in
        let f : settings_hold (settings_in settings) ≡ false = ap settings_hold u.1 ∙ h in
        (rw (u.0, f), rw (u.0, f))

    pub candidates_taken : {x : Result ℕ Refusal} {l : List ℕ} → settings_hold s ≡ true
        → (x ≡ candidates_with s action out) × (l ≡ candidates_with_after s action out)
        → (x ≡ candidates_in settings action out) × (l ≡ candidates_after settings action out)
    unfolding candidates_in candidates_after candidates_with candidates_with_after pass
    candidates_taken h p =
        let u = whole s is in
        let f : settings_hold (settings_in settings) ≡ true = ap settings_hold u.1 ∙ h in (
          rw (u.0, f) (p.0 ∙ ap (λ (z : Settings). candidates_with z action out) (sym u.1)),
          rw (u.0, f) (p.1 ∙ ap (λ (z : Settings). candidates_with_after z action out) (sym u.1)),
        )
