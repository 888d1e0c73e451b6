-- What is known of the backing device over a run.
use Rattle.std.specs.Prelude.{◌≡◌, ◌≢◌, ℕ, List, Option, None}
use Rattle.b67_io.specs.Causes.{Rose, Stayed}
use Rattle.b67_layout.specs.Machine.{content_after}

-- the device before the run and now, and what one tells; what is known of its sectors before, which is what it told, and what it tells now, how many
-- sectors it had and has, and how often it had failed before and has failed now
pub record Device (B : Type 0) : Type 0 where
  pub old : B
  pub new : B
  pub holds : B → Option (List (List ℕ))
  pub before : Option (List (List ℕ))
  pub now : Option (List (List ℕ))
  pub sectors : ℕ
  pub sectors_now : ℕ
  pub failed_before : ℕ
  pub failed_now : ℕ

abbrev pub device_of : {B : Type 0} → (B → Option (List (List ℕ))) → (B → ℕ) → (B → ℕ) → B → B → Device B
device_of holds size faults old new = record {
  old = old;
  new = new;
  holds = holds;
  before = holds old;
  now = holds new;
  sectors = size old;
  sectors_now = size new;
  failed_before = faults old;
  failed_now = faults new;
}

-- the same device, of which this is known before
abbrev pub knowing : {B : Type 0} → Option (List (List ℕ)) → Device B → Device B
knowing told d = record d { before = told }

-- it told what its sectors hold
abbrev pub DeviceTells : {B : Type 0} → Device B → Type 0
DeviceTells d = d.before ≢ None

-- what is known now of its sectors: what it tells, if it told them before
abbrev pub known_now : {B : Type 0} → Device B → Option (List (List ℕ))
known_now d = content_after d.before d.now

-- it is as it was: no call changed it
abbrev pub DeviceUnchanged : {B : Type 0} → Device B → Type 0
DeviceUnchanged d = d.new ≡ d.old

-- its count of failures rose, or didn't
abbrev pub Failed : {B : Type 0} → Device B → Type 0
Failed d = Rose (λ (count : ℕ). count) d.failed_before d.failed_now

abbrev pub Worked : {B : Type 0} → Device B → Type 0
Worked d = Stayed (λ (count : ℕ). count) d.failed_before d.failed_now
