-- What is known of devices without names in front of statements and behind them: each is declared by its first use, behind all
-- that is declared (C99 6.7.8).
use Rattle.std.specs.Prelude.{◌≡◌, ℕ, ◌+◌, ◌-◌, ◌<◌, ◌≤◌, true, List, [], ◌∷◌, ◌++◌, map, length, take, drop, Some, None, slice_get}
use Rattle.std.specs.Option.{is_some}
use Rattle.cc_type.specs.CcTypedTerms.Devices.{declared_device, number_of}
use Rattle.cc_program.specs.declared.object.Device.{Device}
use Rattle.cc_program.specs.declared.program.Program.{Program}
use Rattle.cc_type.specs.CcScopes.State.{State, with_names, with_declared}
use Rattle.cc_type.specs.CcScopes.declared.unit.Declared.{Declared}
use Rattle.cc_shown_expressions.specs.OperationNumbers.{Numbers}

module _ (p : Program) (n : Numbers) where
  -- one use of a device, from what is known in front of it to what is known behind it
  pub data DeviceFrom (i : ℕ) (s : State) : State → Type 0 where
    HasName : (d : Device) → slice_get p.devices i ≡ Some d → is_some d.name ≡ true → DeviceFrom i s s
    Again : (d : Device) → slice_get p.devices i ≡ Some d → d.name ≡ None → number_of d s.names ≡ Some (n.device i) → DeviceFrom i s s
    AtFirst : (d : Device) → slice_get p.devices i ≡ Some d → d.name ≡ None → number_of d s.names ≡ None → n.device i ≡ length s.names → DeviceFrom i s (with_declared (declared_device d) s)

  -- one use behind another
  abbrev pub DevicesFrom : List ℕ → State → State → Type 0
  DevicesFrom [] s u = s ≡ u
  DevicesFrom (i ∷ is) s u = (t : State) × DeviceFrom i s t × DevicesFrom is t u

  -- of the devices as many are known: those of them that have no names are declared, and the others have none, are not
  -- declared, and get the next numbers
  pub record KnowsDevices (known_devices : ℕ) (names : List Declared) : Type 0 where
    pub nameless : (i : ℕ) (d : Device) → slice_get p.devices i ≡ Some d → known_devices ≤ i → d.name ≡ None
    pub known : (i : ℕ) (d : Device) → slice_get p.devices i ≡ Some d → d.name ≡ None → i < known_devices → number_of d names ≡ Some (n.device i)
    pub unknown : (i : ℕ) (d : Device) → slice_get p.devices i ≡ Some d → known_devices ≤ i → number_of d names ≡ None
    pub next : (i : ℕ) (d : Device) → slice_get p.devices i ≡ Some d → known_devices ≤ i → n.device i ≡ length names + (i - known_devices)

-- from the first of these positions on, below the second
abbrev pub between : {A : Type 0} → ℕ → ℕ → List A → List A
between a b xs = take (b - a) (drop a xs)

-- where these devices were used for the first time
abbrev pub with_devices : Program → ℕ → ℕ → State → State
with_devices p a b s = with_names (s.names ++ map declared_device (between a b p.devices)) s
