-- The machine that was set up represents the sessions of its programs.
use Rattle.std.proofs.Common.{◌≡◌, ℕ, zero, suc, ◌+◌, ◌-◌, ◌*◌, ◌<◌, ◌≤◌, List, [], length, replicate, Option, Some, refl, sym, ◌∙◌, ap, subst, arith, inl}
use Rattle.std.specs.List.{slice_get}
use Rattle.b67_word.specs.Tagged.{Tagged, word}
use Rattle.b67_area.specs.declared.Areas.{Areas}
use Rattle.b67_area.specs.Spans.{left}
use Rattle.b67_area.specs.Directory.{IsDirectory}
use Rattle.b67_backing.specs.Held.{Changes, SameBut}
use Rattle.b67_backing.specs.Shelf.{Shelf, IsShelf}
use Rattle.b67_lemmas.specs.Lists.{Has}
use Rattle.b67_model.specs.Program.{Program}
use Rattle.b67_model.specs.Schedule.{Switch}
use Rattle.b67_law.specs.Opening.{Opening, DeckWithin, opening}
use Rattle.b67_stack.specs.declared.Cpu.{Cpu}
use Rattle.b67_layout.specs.Session.{RepresentsMcp, RepresentsSession}
use Rattle.b67_load.specs.StoredObjects.{stocked}
use Rattle.b67_load.specs.Writing.{Parts as Writing_parts, Spares, Writes}
use Rattle.b67_load.proofs.Shelves.{placed_object}
use Rattle.b67_session.specs.Opened.{dictionaries, objects_from, opening_plan, programs_of}
use Rattle.b67_session.specs.Words.{SlotsLie, HeadsLie, InstalledAll, LiesAroundDictionaries}
use Rattle.b67_session.specs.Stored.{absent_storage}
use Rattle.b67_layout.specs.Machine.{content_after, DeviceAfterCalls}
use Rattle.b67_session.specs.InitialOpens.{Opens}
use Rattle.b67_session.proofs.Heads.{heads_same}
use Rattle.b67_session.proofs.Objects.{is_object, object_within, objects_long}
use Rattle.b67_session.proofs.Rests.{Stored, object_stands, owned}
use Rattle.b67_session.proofs.Whole.{Parts, opening_stands}

pub each_is : {A : Type 0} (x : A) (n k : ℕ) → k < n → slice_get (replicate n x) k ≡ Some x
each_is x zero k h = absurd (omega arith)
each_is x (suc n) zero h = refl
each_is x (suc n) (suc k) h = each_is x n k (omega arith)

-- core after the dictionaries were written, where the rest was laid out
pub record LaidOut (mid : List Tagged) (cpu : Cpu) (areas : Areas) (stack : ℕ) (programs : List Program) : Type 0 where
  pub mcp : RepresentsMcp cpu.core
  pub slots : SlotsLie cpu.core (160 + dictionaries programs) stack (length programs)
  pub vector : (k : ℕ) → length programs ≤ k → k < 120 → slice_get cpu.core (32 + k) ≡ slice_get mid (32 + k)
  pub kept : (i : ℕ) → 160 ≤ i → i < 160 + dictionaries programs → slice_get cpu.core i ≡ slice_get mid i
  pub size : areas.size ≡ length cpu.core
  pub low : areas.low ≡ 160 + dictionaries programs + length programs * stack
  pub directory : IsDirectory cpu.core areas.low (left (length cpu.core - areas.low) [])
  pub inside : areas.low ≤ length cpu.core
  pub critical : (k : ℕ) → k < 120 → slice_get cpu.critical k ≡ Some 0
  pub slot : cpu.regs.slot ≡ 255
  pub stacks : cpu.regs.stacks ≡ 160 + dictionaries programs
  pub stack_size : cpu.regs.stack_size ≡ stack
  pub peak : cpu.regs.peak ≡ length programs

module _ {D : Type 0} (tell : D → Option (List (List ℕ))) (old mid : Writing_parts D) (cpu : Cpu) (areas : Areas) (stack : ℕ) (programs : List Program) where
  parts_of : (openings : List Opening) (switches : List Switch) (st : Shelf) → programs_of openings ≡ programs → DeckWithin stack switches openings
      → old.core ≡ replicate (length old.core) (word 0 0) → 160 ≤ length old.core
      → HeadsLie mid.core 160 programs → Writes tell (objects_from 160 programs) old mid → Spares tell 160 (dictionaries programs) old mid
      → LaidOut mid.core cpu areas stack programs → IsShelf old.table st → st.chains ≡ []
      → Parts (absent_storage cpu.core areas.low (stocked (objects_from 160 programs) st) (content_after (tell old.device) (tell mid.device))) cpu stack programs
  parts_of openings switches st same within zero_words some heads writes spares laid is none = record {
    heads = heads_same mid.core cpu.core 160 programs laid.kept heads;
    objects = object_stands cpu.core areas.low old.table mid.table st (objects_from 160 programs) (tell old.device) (tell mid.device) stored;
    owned = owned cpu.core areas.low old.table mid.table st (objects_from 160 programs) (tell old.device) (tell mid.device) stored;
    mcp = laid.mcp;
    slots = laid.slots;
    free = λ k low high. laid.vector k low high ∙ (spares.outside (32 + k) (inl (omega (arith, high))) ∙ (ap (λ c. slice_get c (32 + k)) zero_words ∙ each_is (word 0 0) (length old.core) (32 + k) (omega (arith, high, some))));
    critical = laid.critical;
    idle = laid.slot;
    stacks = laid.stacks;
    size = laid.stack_size;
    peak = laid.peak;
    low = laid.low;
    directory = laid.directory;
    inside = laid.inside;
  } where
    stored : Stored cpu.core old.table mid.table st (objects_from 160 programs) (tell old.device) (tell mid.device)
    stored = record {
      old_shelf = is;
      new_shelf = writes.shelf st is;
      links = spares.links;
      none = none;
      room = omega (arith, writes.left, is.count);
      long = λ t h. (objects_long 160 openings t within.each (subst (λ (ps : List Program). Has (objects_from 160 ps) t) (sym same) h)).0;
      descriptors = λ r h.
          let home = object_within programs r.object (is_object programs r.object (placed_object (objects_from 160 programs) st.free r h)) in
          laid.kept r.object.home (omega (arith, home.low)) home.high ∙ writes.descriptors st is r h;
      stocks = λ a e. (writes.stocks st is).told a e;
    }

  pub opens : old.core ≡ replicate (length old.core) (word 0 0) → 160 ≤ length old.core
      → InstalledAll tell programs old mid → Spares tell 160 (dictionaries programs) old mid
      → LaidOut mid.core cpu areas stack programs → (st : Shelf) → IsShelf old.table st → st.chains ≡ []
      → Opens areas mid.table (content_after (tell old.device) (tell mid.device)) (absent_storage cpu.core areas.low (stocked (objects_from 160 programs) st) (content_after (tell old.device) (tell mid.device))) cpu stack programs
  opens zero_words some installed spares laid st is none = record {
    storage = record { low = refl; size = laid.size; shelf = installed.writes.shelf st is; device = refl };
    session = λ quantum switches openings same within.
        let x = absent_storage cpu.core areas.low (stocked (objects_from 160 programs) st) (content_after (tell old.device) (tell mid.device)) in
        subst (λ (ps : List Program). RepresentsSession x cpu (opening_plan stack ps) (opening stack quantum switches openings)) same
        (opening_stands x cpu stack quantum switches openings within
        (subst (λ (ps : List Program). Parts x cpu stack ps) (sym same)
        (parts_of openings switches st same within zero_words some installed.heads installed.writes spares laid is none)));
  }

pub laid_out : (mid : List Tagged) (cpu : Cpu) (areas : Areas) (stack stacks jobs : ℕ) (programs : List Program) → stacks ≡ 160 + dictionaries programs → jobs ≡ length programs
    → LiesAroundDictionaries mid cpu.core stacks stack jobs
    → areas ≡ record { size = length mid; low = stacks + jobs * stack }
    → IsDirectory cpu.core (stacks + jobs * stack) (left (length mid - (stacks + jobs * stack)) [])
    → stacks + jobs * stack ≤ length mid
    → ((k : ℕ) → k < 120 → slice_get cpu.critical k ≡ Some 0)
    → cpu.regs.slot ≡ 255 → cpu.regs.stacks ≡ stacks → cpu.regs.stack_size ≡ stack → cpu.regs.peak ≡ jobs → LaidOut mid cpu areas stack programs
laid_out mid cpu areas stack stacks jobs programs at count around is directory inside critical slot base size peak = grind arith

-- a device after calls that left all sectors but free ones as they were
pub after_calls : {D : Type 0} (tell : D → Option (List (List ℕ))) (size calls faults : D → ℕ) (old new : D) (free : List ℕ) → size new ≡ size old → calls old ≤ calls new → faults old ≤ faults new
    → Changes tell old new (SameBut free) → DeviceAfterCalls tell size calls faults old new
after_calls tell size calls faults old new free same called failed c = grind arith

-- a device that wasn't called
pub uncalled : {D : Type 0} (tell : D → Option (List (List ℕ))) (size calls faults : D → ℕ) (now : D) → DeviceAfterCalls tell size calls faults now now
uncalled tell size calls faults now = record { size = refl; calls = omega arith; faults = omega arith; tells = record { told = λ x e. (x, e, refl) } }
