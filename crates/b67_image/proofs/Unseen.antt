-- A machine's sessions don't see what its parts leave out: the order of the free sectors, the count at which its run stops, and how
-- much of a step's text was printed.
use Rattle.std.proofs.Common.{◌≡◌, ℕ, List, [], map, length, Option, None, refl, sym, subst, ◌∙◌}
use Rattle.b67_word.specs.Tagged.{Tagged}
use Rattle.b67_ctl.specs.declared.registers.Regs.{Regs}
use Rattle.b67_backing.specs.Shelf.{IsShelf}
use Rattle.b67_backing.specs.Links.{AreLinksOf, links_in, unlinked}
use Rattle.b67_backing.proofs.Shelved.{shelf_links}
use Rattle.b67_model.specs.Schedule.{Session}
use Rattle.b67_stack.specs.Common.{MachineView, Storage, Represents}
use Rattle.b67_stack.proofs.Reheld.{Content-stays}
use Rattle.b67_layout.specs.Common.{JobCounts, Placement, RepresentsSession, TablesShow, machine_view, with_objects}
use Rattle.b67_task.specs.declared.tables.Machine.{Machine}
use Rattle.b67_task.specs.Tables.{MachineRepresents, job_row, switch_of, task_row}
use Rattle.b67_layout_shown.specs.Machines.{RepresentsOne}
use Rattle.b67_image.specs.Parts.{ImageParts, parts_of}
use Rattle.b67_image.specs.Laws.{PartsTellSessions}

-- the storage with its free sectors in another order
abbrev pub with_free : Storage → List ℕ → Storage
with_free x free = record x { shelf = record { free = free; chains = x.shelf.chains } }

Represents-free : (x : Storage) (free : List ℕ) (core : List Tagged) (r : Regs) (p : MachineView) → Represents x core r p → Represents (with_free x free) core r p
Represents-free x free core r p s = record {
  slots = s.slots;
  stacks = s.stacks;
  objects = λ t int. let was = s.objects t int in record {
    home = was.home;
    content = Content-stays x (with_free x free) t (x.held t.home).chain (record { chain = refl; told = λ ns k. k }) core core (x.held t.home).area (λ b e q low high. refl) was.content;
  };
  owned = record { of_area = s.owned.of_area; of_held = s.owned.of_held; of_chain = s.owned.of_chain; no_zero = s.owned.no_zero; one_chain = s.owned.one_chain };
  directory = s.directory;
  inside = s.inside;
}

abbrev counts_in : ImageParts → JobCounts
counts_in p = record {
  quantum = p.counts.quantum;
  made = p.counts.made;
  turn = p.counts.turn;
  last_job = p.counts.last_job;
  last_number = p.counts.last_number;
  switches = map switch_of p.switches;
  next_switch = p.counts.next_switch;
  running = p.counts.running;
}

-- what is asked of a machine with these parts, but for its sectors
record PartsRepresent (x : Storage) (told : Option (List (List ℕ))) (plan : Placement) (s : Session) (p : ImageParts) : Type 0 where
  session : RepresentsSession x (record { core = p.core; regs = p.regs; display = p.display; critical = p.critical }) plan s
  low : p.areas.low ≡ x.low
  size : p.areas.size ≡ length p.core
  device : told ≡ x.device
  tables : TablesShow plan s (map task_row p.rows) (map job_row p.jobs) (counts_in p)

parts_represent : (x : Storage) (told : Option (List (List ℕ))) (k : Machine) (plan : Placement) (s : Session) (free : List ℕ) → MachineRepresents x told k plan s → PartsRepresent (with_free x free) told plan s (parts_of k)
parts_represent x told k plan s free h =
    let v = h.session.holds in
    record {
      session = record {
        holds = record {
          fits = v.fits;
          memory = Represents-free x free k.cpu.core k.cpu.regs (with_objects [] (machine_view plan s.jobs)) v.memory;
          settled = v.settled;
          dictionaries = v.dictionaries;
          mcp = v.mcp;
          vector = v.vector;
          critical = v.critical;
          live = v.live;
          running = v.running;
          none = v.none;
        };
        shows = h.session.shows;
      };
      low = h.storage.low;
      size = h.storage.size;
      device = h.storage.device;
      tables = h.tables;
    }

machine_represents : (x : Storage) (told : Option (List (List ℕ))) (k : Machine) (plan : Placement) (s : Session) → IsShelf k.sectors x.shelf → PartsRepresent x told plan s (parts_of k) → MachineRepresents x told k plan s
machine_represents x told k plan s shelf h = record {
  session = h.session;
  storage = record { low = h.low; size = h.size; shelf = shelf; device = h.device };
  tables = h.tables;
}

-- the sectors stand in the chains of these links, and the others are free in order
abbrev pub StandInOrder : List ℕ → Machine → Type 0
StandInOrder links k = (ks : List (List ℕ)) → AreLinksOf links ks → IsShelf k.sectors (record { free = unlinked 1 links; chains = ks })

-- a machine with the parts of another one represents its sessions
pub same_sessions : (m k : Machine) (x : Storage) (told : Option (List (List ℕ))) (plan : Placement) (s : Session) → parts_of k ≡ parts_of m → StandInOrder (links_in m.sectors) k → MachineRepresents x told m plan s
    → MachineRepresents (with_free x (unlinked 1 (links_in m.sectors))) told k plan s
same_sessions m k x told plan s same sectors h =
    let free = unlinked 1 (links_in m.sectors) in
    machine_represents (with_free x free) told k plan s (sectors x.shelf.chains (shelf_links m.sectors x.shelf h.storage.shelf))
    (subst (PartsRepresent (with_free x free) told plan s) (sym same) (parts_represent x told m plan s free h))

pub parts_tell : PartsTellSessions
parts_tell m k x told plan s shows h = (with_free x (unlinked 1 (links_in m.sectors)), same_sessions m k x told plan s shows.parts shows.sectors h)

-- it represents a session where that one does
pub represents_one : (p : ImageParts) (m k : Machine) → parts_of m ≡ p → parts_of k ≡ p → StandInOrder p.links k → RepresentsOne m → RepresentsOne k
represents_one p m k em ek sectors h =
    let same : parts_of k ≡ parts_of m = ek ∙ sym em in
    let here : StandInOrder (links_in m.sectors) k = subst (λ (q : ImageParts). StandInOrder q.links k) (sym em) sectors in
    record {
      storage = with_free h.storage (unlinked 1 (links_in m.sectors));
      plan = h.plan;
      session = h.session;
      ordered = h.ordered;
      stands = same_sessions m k h.storage None h.plan h.session same here h.stands;
    }

-- where links are those of no chains, no machine with them represents a session
pub none_linked : (p : ImageParts) → ((ks : List (List ℕ)) → AreLinksOf p.links ks → ⊥) → (m : Machine) → parts_of m ≡ p → RepresentsOne m → ⊥
none_linked p none m e h =
    none h.storage.shelf.chains (subst (λ (q : ImageParts). AreLinksOf q.links h.storage.shelf.chains) e (shelf_links m.sectors h.storage.shelf h.stands.storage.shelf))
