-- A device over several calls.
use Rattle.std.proofs.Common.{◌≡◌, ℕ, List, Option, Some, refl, ◌∙◌, ap, arith, None}
use Rattle.b67_area.specs.declared.Areas.{Areas}
use Rattle.b67_backing.specs.Shelf.{Table}
use Rattle.b67_stack.specs.declared.Cpu.{Cpu}
use Rattle.b67_layout.specs.Machine.{DeviceAfterCalls, DeviceAfterReads, PagingKeeps, Says}

pub Served-none : {D : Type 0} (holds : D → Option (List (List ℕ))) (size calls faults : D → ℕ) (d : D) → DeviceAfterCalls holds size calls faults d d
Served-none {D} holds size calls faults d = record { size = refl; calls = omega arith; faults = omega arith; tells = record { told = λ x e. (x, e, refl) } }

pub Served-then : {D : Type 0} (holds : D → Option (List (List ℕ))) (size calls faults : D → ℕ) (d e f : D) → DeviceAfterCalls holds size calls faults d e → DeviceAfterCalls holds size calls faults e f → DeviceAfterCalls holds size calls faults d f
Served-then {D} holds size calls faults d e f a b = record {
  size = b.size ∙ a.size;
  calls = omega (arith, a.calls, b.calls);
  faults = omega (arith, a.faults, b.faults);
  tells = record { told = λ x is. let (y, iy, ly) = a.tells.told x is in let (z, iz, lz) = b.tells.told y iy in (z, iz, lz ∙ ly) };
}

-- a device whose sectors stayed
pub Served-same : {D : Type 0} (holds : D → Option (List (List ℕ))) (size calls faults : D → ℕ) (d e : D) → DeviceAfterReads holds size calls faults d e → DeviceAfterCalls holds size calls faults d e
Served-same {D} holds size calls faults d e r = record { size = r.size; calls = r.calls; faults = r.faults; tells = record { told = λ x is. (x, r.same.told x is, refl) } }

pub still_tells : {D : Type 0} (holds : D → Option (List (List ℕ))) (size calls faults : D → ℕ) (d e : D) → DeviceAfterCalls holds size calls faults d e → (all : List (List ℕ)) → holds d ≡ Some all → (y : List (List ℕ)) × (holds e ≡ Some y)
still_tells {D} holds size calls faults d e s all is = let (y, i, l) = s.tells.told all is in (y, i)

pub says_of : (d told : Option (List (List ℕ))) → told ≡ d → Says d told
says_of None told e = tt
says_of (Some all) told e = e

pub says_self : (told : Option (List (List ℕ))) → Says told told
says_self None = tt
says_self (Some all) = refl

-- what several calls of paging keep
pub Keeps-none : (cpu : Cpu) (areas : Areas) (table : Table) → PagingKeeps cpu cpu areas areas table table
Keeps-none cpu areas table = record { rest = refl; len = refl; areas = refl; count = refl }

pub Keeps-then : (a b c : Cpu) (x y z : Areas) (t u v : Table) → PagingKeeps a b x y t u → PagingKeeps b c y z u v → PagingKeeps a c x z t v
Keeps-then a b c x y z t u v p q = record {
  rest = q.rest ∙ ap (λ (d : Cpu). let w : Cpu = record d { core = c.core } in w) p.rest;
  len = q.len ∙ p.len;
  areas = q.areas ∙ p.areas;
  count = q.count ∙ p.count;
}
