-- An answer is no other one.
use Rattle.std.proofs.Common.{◌≡◌, ℕ, Bool, true, false, Result, Ok, Err}
use Rattle.b67_backing.specs.declared.SpaceFault.{SpaceFault}
use Rattle.b67_backing.specs.declared.SpaceFault.TheVariants.{NoCore, BackingFull, BackingFault}

pub ok_err : {A E : Type 0} {x : A} {e : E} → ◌≡◌ {A = Result A E} (Ok x) (Err e) → ⊥
ok_err e = cc

pub err_ok : {A E : Type 0} {x : A} {e : E} → ◌≡◌ {A = Result A E} (Err e) (Ok x) → ⊥
err_ok e = cc

pub ok_true : {E : Type 0} → ◌≡◌ {A = Result Bool E} (Ok true) (Ok false) → ⊥
ok_true e = cc

pub ok_false : {E : Type 0} → ◌≡◌ {A = Result Bool E} (Ok false) (Ok true) → ⊥
ok_false e = cc

pub core_full : {A : Type 0} {need size wants free : ℕ} → ◌≡◌ {A = Result A SpaceFault} (Err (NoCore need size)) (Err (BackingFull wants free)) → ⊥
core_full e = cc

pub fault_core : {A : Type 0} {need size : ℕ} → ◌≡◌ {A = Result A SpaceFault} (Err BackingFault) (Err (NoCore need size)) → ⊥
fault_core e = cc

pub fault_full : {A : Type 0} {wants free : ℕ} → ◌≡◌ {A = Result A SpaceFault} (Err BackingFault) (Err (BackingFull wants free)) → ⊥
fault_full e = cc

pub same_err : {A B E : Type 0} {e f : E} → ◌≡◌ {A = Result A E} (Err e) (Err f) → ◌≡◌ {A = Result B E} (Err e) (Err f)
same_err e = cc
