-- Why what a step wants wasn't brought in.
use Rattle.std.proofs.Common.{◌≡◌, ◌≢◌, ℕ, ◌+◌, ◌<◌, ◌≤◌, ◌⊎◌, inl, inr, ⊎_elim, List, length, Option, None, Err, refl, sym, ◌∙◌, ap, arith, subst}
use Rattle.std.proofs.lemmas.Bool.{cases_lt}
use Rattle.b67_model.specs.Common.{Task, SessionJob, sectors, need, Session}
use Rattle.b67_layout.specs.Common.{IsInOrderButCounts, Placement, IsRunning}
use Rattle.b67_backing.specs.declared.refusals.SpaceFault.{SpaceFault}
use Rattle.b67_backing.specs.declared.refusals.SpaceFault.TheVariants as space
use Rattle.b67_stack.specs.declared.What.{What}
use Rattle.b67_stack.specs.declared.What.TheVariants as what
use Rattle.b67_stack.specs.Represents.{Storage}
use Rattle.b67_layout.specs.Machine.{HasHole, content_after}
use Rattle.b67_exec_cells.specs.Running.{code_area}
use Rattle.b67_task.specs.Needing.{need_with}
use Rattle.b67_layout_step.proofs.OtherNumbers.{others_in_order}
use Rattle.b67_task.specs.declared.tables.Machine.{Machine}
use Rattle.b67_task.specs.Tables.{MachineRepresents}
use Rattle.b67_mcp.specs.declared.ends.Stop.{Stop}
use Rattle.b67_mcp.specs.declared.ends.Stop.TheVariants as stops
use Rattle.b67_presence.specs.Bringing.{StandsOver, IsWanted, StandsAgain, Lacks, StillLacks, HasNoRoom, RefusedFull}
use Rattle.b67_layout_step.proofs.MoreOtherNumbers.{others_running, RunsOther}
use Rattle.b67_presence.proofs.Others.{others_same, others_sectors}
use Rattle.b67_session.specs.Tries.{IsWantedByStep}
use Rattle.b67_session.specs.Attempts.{IsLacking, LacksRoom, for_segment, for_array, CodeFits, for_want}
use Rattle.b67_session.specs.Brought.{Stopped, BroughtFits}
use Rattle.b67_mcp.specs.Stopping.{StopsFor}
use Rattle.b67_session.proofs.Numbers.{need_of, need_fits}
use Rattle.b67_mcp.proofs.Told.{told_is}
use Rattle.b67_session.proofs.Composed.{unchanged, same_member}

module _ (x : Storage) (told told' : Option (List (List ℕ))) (old new : Machine) (plan : Placement) (s : Session) (m : SessionJob) (t : Task) (count words : ℕ) (found : What) (o : IsInOrderButCounts s) (h : StandsOver x told old plan s) (runs : IsRunning plan s.jobs m t)
    (wanted : IsWanted x plan m t found words) (touched : IsWantedByStep plan m t found words) where
  -- nothing has changed where core is too small
  small : (need_words size : ℕ) → length old.cpu.core < need_with s m t 0 words → need_words ≡ need_with s m t 0 words → size ≡ length old.cpu.core → new ≡ old → told' ≡ told
      → Stopped x (content_after x.device told') (length old.cpu.core) count plan s t (stops.NoCore need_words size) new
  small need_words size above is core same tells =
      let said : x.device ≡ content_after x.device told' = sym (told_is x.device told h.says) ∙ ap (content_after x.device) (sym tells) in
      let P : Option (List (List ℕ)) → Type 0 = λ d. MachineRepresents x d new plan s in
      let number : need (length old.cpu.core) s m t ≡ need_with s m t 0 words = need_of x x.device old plan s m t o h.stands runs found words wanted touched above in
      record {
        jobs = s.jobs;
        others = others_same s o;
        same = λ n. refl;
        member = m;
        running = runs;
        meets = (is ∙ sym number, core, omega (arith, above, is), (x, subst P said (unchanged x x.device plan s old new same h.stands)));
      }

  -- what is missing where it was refused, in the session itself
  lacking : (y : Storage) (home : What) → IsWantedByStep plan m t home words → Lacks y home plan m t → IsLacking y plan m t
  lacking y home touch absent = grind arith

  -- and that core has room
  room : (y : Storage) (home : What) → IsWanted x plan m t home words → IsWantedByStep plan m t home words → Lacks y home plan m t → need_with s m t 0 words ≤ length old.cpu.core
      → (need (length old.cpu.core) s m t ≤ length old.cpu.core) ⊎ (code_area y plan m t ≡ None)
  room y (what.Code displacement) want touch absent low = inr absent
  room y (what.Array home) want touch absent low = inl (need_fits x x.device old plan s m t o h.stands runs home words want touch low)

  -- no hole has room for what is absent
  lacks_room : (y : Storage) (home : What) → IsWantedByStep plan m t home words → HasNoRoom y home words plan m t → LacksRoom y plan m t
  lacks_room y (what.Code displacement) touch none = for_segment none.0 none.1
  lacks_room y (what.Array home) touch none =
      let (a, among, home_is, is, count_is) = touch in
      for_array a none.0 among (ap (λ (at : ℕ). (y.held at).area) home_is ∙ none.1) is (λ hole. none.2 (subst (λ (n : ℕ). HasHole (n + 2) y.spans) (sym count_is) hole))

  -- where the running segment was present
  present_room : (home : What) → IsWanted x plan m t home words → IsWantedByStep plan m t home words → need_with s m t 0 words ≤ length old.cpu.core → code_area x plan m t ≢ None → need (length old.cpu.core) s m t ≤ length old.cpu.core
  present_room (what.Code displacement) want touch low code = absurd (code want.1)
  present_room (what.Array home) want touch low code = need_fits x x.device old plan s m t o h.stands runs home words want touch low

  module _ (again : StandsAgain x told' new plan s) where
    stands_told : MachineRepresents again.storage (content_after x.device told') new plan (record s { jobs = again.jobs })
    stands_told = let P : Option (List (List ℕ)) → Type 0 = λ d. MachineRepresents again.storage d new plan (record s { jobs = again.jobs }) in subst P again.device again.stands.stands

    other : RunsOther plan again.jobs m t
    other = others_running plan s.jobs again.jobs again.others m t runs

    -- the same of the session that the machine represents, where the device tells
    lacks_again : Lacks again.storage found plan m t → x.device ≢ None → IsLacking again.storage plan other.member t
    lacks_again absent n =
        let M : SessionJob → Type 0 = λ z. IsLacking again.storage plan z t in
        subst M (sym (same_member plan s again.jobs m t runs other (again.same n))) (lacking again.storage found touched absent)

    room_again : Lacks again.storage found plan m t → need_with s m t 0 words ≤ length old.cpu.core → x.device ≢ None
        → (need (length old.cpu.core) (record s { jobs = again.jobs }) other.member t ≤ length old.cpu.core) ⊎ (code_area again.storage plan other.member t ≡ None)
    room_again absent low n = grind (arith, other, room)

    code_again : need_with s m t 0 words ≤ length old.cpu.core → x.device ≢ None → CodeFits (length old.cpu.core) (record s { jobs = again.jobs }) other.member t
    code_again low n = grind (arith, other)

    no_room_again : HasNoRoom again.storage found words plan m t → x.device ≢ None → LacksRoom again.storage plan other.member t
    no_room_again none n =
        let M : SessionJob → Type 0 = λ z. LacksRoom again.storage plan z t in
        subst M (sym (same_member plan s again.jobs m t runs other (again.same n))) (lacks_room again.storage found touched none)

  -- a refusal for want of sectors, and by the device
  full_so : (sum size wants free : ℕ) (r : RefusedFull x told' new plan s m t found words wants free) → ((y : Storage) (d : Option (List (List ℕ))) (p : Placement) (z : Session) → IsInOrderButCounts z → MachineRepresents y d new p z → sum ≡ sectors z.jobs)
      → size ≡ count → count < sectors s.jobs → need_with s m t 0 words ≤ length old.cpu.core → Stopped x (content_after x.device told') (length old.cpu.core) count plan s t (stops.BackingFull sum size) new
  full_so sum size wants free r sums size_is below low =
      let again = r.refused.again in
      let is : sum ≡ sectors again.jobs = sums again.storage again.storage.device plan (record s { jobs = again.jobs }) (others_in_order s again.jobs again.others o) again.stands.stands in
      record {
        jobs = again.jobs;
        others = again.others;
        same = again.same;
        member = (other again).member;
        running = (other again).runs;
        meets = (
          size_is,
          omega (arith, below, is, others_sectors s.jobs again.jobs again.others),
          record {
            lacking = record { storage = again.storage; stands = stands_told again; lacks = lacks_again again r.refused.lacks; room = room_again again r.refused.lacks low; code = code_again again low };
            tells = for_want (no_room_again again r.no_room) is;
            wants = wants;
            free = free;
            short = inl r.short;
          },
        );
      }

  fault_so : (r : StillLacks x told' new plan s m t found) → need_with s m t 0 words ≤ length old.cpu.core → Stopped x (content_after x.device told') (length old.cpu.core) count plan s t stops.BackingFault new
  fault_so r low =
      let again = r.again in
      record {
        jobs = again.jobs;
        others = again.others;
        same = again.same;
        member = (other again).member;
        running = (other again).runs;
        meets = record { storage = again.storage; stands = stands_told again; lacks = lacks_again again r.lacks; room = room_again again r.lacks low; code = code_again again low };
      }

  -- core has room where that isn't the reason
  has_room : (fault : SpaceFault) → ((words' size : ℕ) → fault ≢ space.NoCore words' size) → (length old.cpu.core < need_with s m t 0 words → fault ≡ space.NoCore (need_with s m t 0 words) (length old.cpu.core)) → need_with s m t 0 words ≤ length old.cpu.core
  has_room fault not exactly = ⊎_elim (λ above. absurd (not (need_with s m t 0 words) (length old.cpu.core) (exactly above))) (λ low. low) (cases_lt (length old.cpu.core) (need_with s m t 0 words))

  pub stopped_fits : (fault : SpaceFault) (stop : Stop) → StopsFor new fault stop → (length old.cpu.core < need_with s m t 0 words → fault ≡ space.NoCore (need_with s m t 0 words) (length old.cpu.core))
      → BroughtFits (length old.cpu.core) x plan s m t (Err stop)
  stopped_fits fault stop h exactly = grind (arith, present_room)

  pub stopped_so : StillLacks x told' new plan s m t found → (fault : SpaceFault) (stop : Stop) → StopsFor new fault stop → count + 1 ≡ length new.sectors.links
      → ((words' size : ℕ) → fault ≡ space.NoCore words' size → (length old.cpu.core < need_with s m t 0 words) × (words' ≡ need_with s m t 0 words) × (size ≡ length old.cpu.core))
      → (length old.cpu.core < need_with s m t 0 words → fault ≡ space.NoCore (need_with s m t 0 words) (length old.cpu.core))
      → ((words' size : ℕ) → fault ≡ space.NoCore words' size → (new ≡ old) × (told' ≡ told))
      → ((wants free : ℕ) → fault ≡ space.BackingFull wants free → (count < sectors s.jobs) × RefusedFull x told' new plan s m t found words wants free)
      → Stopped x (content_after x.device told') (length old.cpu.core) count plan s t stop new
  stopped_so refused (space.NoCore words' size) stop h links core exactly same full =
      let (above, is, size_is) = core words' size refl in
      let (k, d) = same words' size refl in
      let S : Stop → Type 0 = λ z. Stopped x (content_after x.device told') (length old.cpu.core) count plan s t z new in
      subst S (sym h) (small words' size above is size_is k d)
  stopped_so refused (space.BackingFull wants free) stop (sum, size, stop_is, sums, size_is) links core exactly same full =
      let (below, short) = full wants free refl in
      let S : Stop → Type 0 = λ z. Stopped x (content_after x.device told') (length old.cpu.core) count plan s t z new in
      let low = has_room (space.BackingFull wants free) (λ a b e. absurd cc) exactly in
      subst S (sym stop_is) (full_so sum size wants free short sums (omega (arith, size_is, links)) below low)
  stopped_so refused space.BackingFault stop h links core exactly same full =
      let S : Stop → Type 0 = λ z. Stopped x (content_after x.device told') (length old.cpu.core) count plan s t z new in
      let low = has_room space.BackingFault (λ a b e. absurd cc) exactly in
      subst S (sym h) (fault_so refused low)

-- a stop for too few sectors is that of the call
pub full_fault : (k : Machine) (fault : SpaceFault) (stop : Stop) (sum size : ℕ) → StopsFor k fault stop → stop ≡ stops.BackingFull sum size → (wants : ℕ) × (free : ℕ) × (fault ≡ space.BackingFull wants free)
full_fault k fault stop sum size h e = grind arith
