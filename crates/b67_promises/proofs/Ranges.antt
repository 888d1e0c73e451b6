-- The machine of a run lies within the ranges that an image can tell: by what its deck gives, by the session that it represents,
-- and by the types of its numbers.
use Rattle.std.proofs.Common.{◌≡◌, ℕ, ℤ, ◌+◌, ◌-◌, ◌<◌, ◌≤◌, ◌^◌, true, List, [], ◌∷◌, length, map, Option, sym, ap, subst, ◌∙◌, arith}
use Rattle.std.specs.Prelude.{nat_abs}
use Rattle.std.specs.List.{AllByRecursion}
use Rattle.std.proofs.lemmas.List.{length-map}
use Rattle.b67_lemmas.specs.Lists.{Has}
use Rattle.b67_lemmas.proofs.Members.{all_in}
use Rattle.b67_backing.specs.Links.{links_in}
use Rattle.b67_backing.proofs.Linkings.{links_in-length}
use Rattle.b67_model.specs.Common.{IsInOrderButPlaces, Session, SessionJob}
use Rattle.b67_model.specs.InOrder.{IsSegment, JobInOrder}
use Rattle.b67_model_text.specs.Cards.{is_name}
use Rattle.b67_model_text.specs.declared.deck.Deck.{Deck}
use Rattle.b67_model_text.specs.declared.deck.Job.{Job}
use Rattle.b67_model_text.specs.declared.deck.Switch.{Switch}
use Rattle.b67_stack.specs.Represents.{Storage}
use Rattle.b67_layout.specs.Placement.{Placement}
use Rattle.b67_layout.specs.Rows.{JobsShow}
use Rattle.b67_task.specs.declared.tables.JobRow.{JobRow}
use Rattle.b67_task.specs.declared.tables.Machine.{Machine}
use Rattle.b67_task.specs.Tables.{job_row, MachineRepresents, AreCountable, JobGiven, job_given, rows_given, Given, given_of}
use Rattle.b67_session.specs.Decks.{JobInRange, DeckInRange, given_to, jobs_given, deck_given}
use Rattle.b67_image.specs.Parts.{parts_of}
use Rattle.b67_image.specs.Within.{AreItems, AreRegs, IsSwitch, IsReadNumber, IsJob, ArePartsWithin}
use Rattle.b67_image.specs.Typed.{IsTypedJob, AreTyped}
use Rattle.b67_job.specs.Ranges.{CardsInRange}
use Rattle.b67_model.specs.declared.limits.TheConstants.{LEAST_CORE, MOST_CORE, MOST_LIMIT, MOST_SWITCHES}

-- ---- what a deck gives its jobs

pub record IsGivenInRange (g : JobGiven) : Type 0 where
  pub name : is_name g.name ≡ true
  pub limit_low : 1 ≤ g.limit
  pub limit_high : g.limit ≤ MOST_LIMIT
  pub numbers : AllByRecursion (λ (v : ℤ). nat_abs v < 2 ^ 39) g.numbers

abbrev first_given : List JobGiven → JobGiven
first_given [] = record { name = []; limit = 0; numbers = [] }
first_given (g ∷ gs) = g

abbrev other_given : List JobGiven → List JobGiven
other_given [] = []
other_given (g ∷ gs) = gs

-- what is true of what a deck gives is true of what the rows have of it
pub given_from : (P : JobGiven → Type 0) (ks : List JobRow) (js : List Job) → rows_given ks ≡ jobs_given js → AllByRecursion (λ (j : Job). P (given_to j)) js → AllByRecursion (λ (k : JobRow). P (job_given k)) ks
given_from P [] js e all = tt
given_from P (k ∷ ks) [] e all = absurd (let z : ⊥ = cc in z)
given_from P (k ∷ ks) (j ∷ js) e all = (subst P (sym (ap first_given e)) all.0, given_from P ks js (ap other_given e) all.1)

deck_gives : (js : List Job) → AllByRecursion JobInRange js → AllByRecursion (λ (j : Job). is_name j.name ≡ true) js → AllByRecursion (λ (j : Job). IsGivenInRange (given_to j)) js
deck_gives [] range names = tt
deck_gives (j ∷ js) range names = grind (arith, deck_gives js range.1 names.1)

-- ---- the rows of jobs

numbers_read : (vs : List ℤ) → AllByRecursion (λ (v : ℤ). nat_abs v < 2 ^ 39) vs → AllByRecursion IsReadNumber vs
numbers_read [] h = tt
numbers_read (v ∷ vs) h = let low : nat_abs v < 2 ^ 39 = h.0 in (record { small = omega (arith, low) }, numbers_read vs h.1)

jobs_within : (plan : Placement) (ms : List SessionJob) (ks : List JobRow) → AllByRecursion (λ (m : SessionJob). JobInOrder (IsSegment m.constants) m.constants m.progress) ms → JobsShow plan ms (map job_row ks)
    → AllByRecursion IsTypedJob ks → AllByRecursion (λ (k : JobRow). IsGivenInRange (job_given k)) ks → AreCountable ks → AllByRecursion IsJob ks
jobs_within plan [] [] order shows typed given few = tt
jobs_within plan [] (k ∷ ks) order shows typed given few = absurd shows
jobs_within plan (m ∷ ms) [] order shows typed given few = absurd shows
jobs_within plan (m ∷ ms) (k ∷ ks) order shows typed given few = grind (arith, numbers_read, jobs_within plan ms ks order.1 shows.1 typed.1 given.1)

-- ---- the whole machine

module _ (d : Deck) (range : DeckInRange d) (cards : CardsInRange d) (k : Machine) (given : given_of k.tasks ≡ deck_given d) (few : AreCountable k.tasks.jobs) (typed : AreTyped (parts_of k)) where
  jobs_are : rows_given k.tasks.jobs ≡ jobs_given d.jobs
  jobs_are = ap (λ (g : Given). g.jobs) given

  few_jobs : length k.tasks.jobs ≤ 8
  few_jobs = grind (arith, length-map)

  module _ (x : Storage) (told : Option (List (List ℕ))) (plan : Placement) (s : Session) (m : SessionJob) (order : IsInOrderButPlaces s) (stands : MachineRepresents x told k plan s) (there : Has s.jobs m) where
    regs : AreRegs k.cpu.regs
    regs =
        let t = typed.regs in
        let set = (all_in (λ (y : SessionJob). JobInOrder (IsSegment y.constants) y.constants y.progress) s.jobs m order.jobs there).unchanging in
        grind arith

    links : AreItems 1 MOST_CORE (λ (n : ℕ). n < 2 ^ 32) (links_in k.sectors)
    links =
        let shelf = stands.storage.shelf in
        let some = shelf.some in
        let small = shelf.small in
        let count : length k.sectors.links - 1 + 1 ≡ length k.sectors.links = omega (arith, some) in
        let long = links_in-length k.sectors (length k.sectors.links - 1) count in
        record { some = omega (arith, some, long); few = omega (arith, some, small, long); each = typed.links }

    -- a machine of at most 120 tasks, in a core that may be asked for
    pub parts_within : length k.tasks.rows.items ≤ 120 → LEAST_CORE ≤ length k.cpu.core → length k.cpu.core ≤ MOST_CORE → ArePartsWithin (parts_of k)
    parts_within tasks low high =
        let quantum : k.tasks.quantum ≡ d.quantum = ap (λ (g : Given). g.quantum) given in
        let quantum_low = cards.quantum_low in
        let quantum_high = cards.quantum_high in
        let c = typed.counts in
        record {
          core = record { some = low; few = high; each = typed.core };
          regs = regs;
          display = typed.display;
          display_many = typed.display_many;
          critical = typed.critical;
          critical_many = typed.critical_many;
          areas = typed.areas;
          links = links;
          counts = record {
            quantum_low = omega (arith, quantum, quantum_low);
            quantum_high = omega (arith, quantum, quantum_high);
            made = c.made;
            turn = c.turn;
            last_job = c.last_job;
            last_number = c.last_number;
            running = c.running;
            next_switch = c.next_switch;
          };
          switches = subst (λ (ws : List Switch). AreItems 0 MOST_SWITCHES IsSwitch ws) (sym (ap (λ (g : Given). g.switches) given)) cards.switches;
          jobs = record {
            some = omega arith;
            few = few_jobs;
            each = jobs_within plan s.jobs k.tasks.jobs order.jobs stands.tables.jobs typed.jobs (given_from IsGivenInRange k.tasks.jobs d.jobs jobs_are (deck_gives d.jobs range.each cards.names)) few;
          };
          rows = record { some = omega arith; few = tasks; each = typed.rows };
        }
