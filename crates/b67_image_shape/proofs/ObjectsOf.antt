-- The objects, areas and chains of a machine that represents what it shows are as they should be.
use Rattle.std.proofs.Common.{◌≡◌, ℕ, ◌+◌, ◌<◌, List, [], ◌∷◌, length, Option, Some, None, refl, sym, ◌∙◌, ap, subst, arith, inl, inr}
use Rattle.b67_area.specs.declared.Kind.{Kind}
use Rattle.b67_area.specs.declared.Kind.TheVariants as kind
use Rattle.b67_area.specs.Spans.{Span, area_at}
use Rattle.b67_area.specs.Directory.{IsDirectory}
use Rattle.b67_lemmas.specs.Lists.{Has}
use Rattle.b67_model.specs.Common.{SessionJob, IsInOrderButPlaces}
use Rattle.b67_stack.specs.Common.{Location, PagedObject, home_word_of, LieUpward, object_words, Storage, ObjectHasChain, Content, KeptChain, info_of}
use Rattle.b67_backing.specs.Shelf.{chain_of}
use Rattle.b67_layout.specs.Common.{SessionHolds, TablesShow, JobRow}
use Rattle.b67_layout_shown.specs.Areas.{DirectoriesAreRead}
use Rattle.b67_layout_shown.specs.Shown.{Sight, member_in, members_from, shown, placed}
use Rattle.b67_layout_shown.specs.Machines.{sight_of, RepresentsShown}
use Rattle.b67_task.specs.declared.tables.Machine.{Machine}
use Rattle.b67_image_shape.specs.TableFacts.{EachJob}
use Rattle.b67_image_shape.specs.Held.{view_in, held_of, spans_of}
use Rattle.b67_image_shape.specs.Items.{ObjectFacts, JobObjectFacts, ObjectsFacts, info_seen, AreaFacts, HasChainSectors, Chained, ChainFacts}
use Rattle.b67_image_shape.proofs.TablesOf.{job_order}
use Rattle.b67_image_shape.proofs.HeldOf.{spans_few, area_same, chain_same}

word_by : (kd : Kind) (n : ℕ) (g h : Location) → g.area ≡ h.area → g.chain ≡ h.chain → home_word_of kd n g ≡ home_word_of kd n h
word_by kd n g h a c = grind arith

module _ (read : DirectoriesAreRead) (k : Sight) (x : Storage) (critical : List ℕ) (ordered : IsInOrderButPlaces (shown k)) (holds : SessionHolds x k.core k.regs critical (placed k) (shown k))
    (tables : TablesShow (placed k) (shown k) k.tasks k.jobs k.counts) where
  areas_are : (home : ℕ) → (held_of k home).area ≡ (x.held home).area
  areas_are home = area_same x k.core k.regs (view_in k) holds.memory home

  chains_are : (t : PagedObject) → Has (view_in k).objects t → (held_of k t.home).chain ≡ (x.held t.home).chain
  chains_are t there = chain_same x k.core k.regs (view_in k) holds.memory t there

  words_lie : (t : PagedObject) → (o : Option ℕ) → (x.held t.home).area ≡ o → Content x k.core t o (x.held t.home).chain → (at : ℕ) → o ≡ Some at → LieUpward k.core at (object_words t)
  words_lie t o e c at z = grind arith

  object : (t : PagedObject) → Has (view_in k).objects t → ObjectFacts k t
  object t there = grind (arith, word_by, areas_are, chains_are, words_lie)

  in_jobs : (n : ℕ) (rows : List JobRow) → ((y : SessionJob) → Has (members_from k n rows) y → Has (shown k).jobs y) → EachJob (JobObjectFacts k) n rows
  in_jobs n [] inside = tt
  in_jobs n (row ∷ more) inside =
      let o = job_order k x critical ordered holds tables (member_in k row n) (inside (member_in k row n) (inl refl)) in
      (record { arrays = o.tasks.arrays; segments = o.unchanging.segments }, in_jobs (n + 1) more (λ y h. inside y (inr h)))

  pub objects_of : ObjectsFacts k
  objects_of = record { jobs = in_jobs 1 k.jobs (λ y h. h); objects = object }

  spans_are : spans_of k.core x.low ≡ x.spans
  spans_are = grind (arith, spans_few)

  info_same : (t : PagedObject) → Has (view_in k).objects t → info_of x t ≡ info_seen k t
  info_same t there = ap (λ c. record { kind = t.kind; words = length t.numbers; owner = t.home; kept = c }) (sym (chains_are t there))

  here : AreaFacts k x.low
  here = record {
    directory = subst (IsDirectory k.core x.low) (sym spans_are) holds.memory.directory;
    owned = λ at a e.
        let (t, there, area, info) = holds.memory.owned.of_area at a (ap (λ (ss : List Span). area_at x.low ss at) (sym spans_are) ∙ e) in
        (t, there, areas_are t.home ∙ area, info ∙ info_same t there);
    present = λ t at there e.
        let (u, hu, home, area) = holds.memory.owned.of_held t.home at (sym (areas_are t.home) ∙ e) in
        let same : u ≡ t = holds.memory.slots.laid.differ u t hu there home in
        ap (λ (ss : List Span). area_at x.low ss at) spans_are ∙ area ∙ ap (λ (v : PagedObject). Some (info_of x v)) same ∙ ap Some (info_same t there);
  }

  pub areas_of : (low : ℕ) → low ≡ x.low → AreaFacts k low
  areas_of low e = subst (AreaFacts k) (sym e) here

  -- ---- chains

  sectors : (t : PagedObject) (first : ℕ) → ObjectHasChain x t first → HasChainSectors x.shelf t first
  sectors t first h = (h.some, h.sectors)

  chained : (t : PagedObject) → (kd : Kind) → t.kind ≡ kd → (o : Option ℕ) → Content x k.core t o (x.held t.home).chain → Chained x.shelf t kd (x.held t.home).chain
  chained t kd e o c = grind arith

  pub each_chained : (t : PagedObject) → Has (view_in k).objects t → Chained x.shelf t t.kind (held_of k t.home).chain
  each_chained t there = subst (Chained x.shelf t t.kind) (sym (chains_are t there)) (chained t t.kind refl (x.held t.home).area (holds.memory.objects t there).content)

  pub chain_owned : (first : ℕ) → 0 < length (chain_of first x.shelf.chains) → (t : PagedObject) × Has (view_in k).objects t × ((held_of k t.home).chain ≡ first)
  chain_owned first some = let (t, there, is) = holds.memory.owned.of_chain first some in (t, there, chains_are t there ∙ is)

  pub chain_once : (t u : PagedObject) → Has (view_in k).objects t → Has (view_in k).objects u → 0 < (held_of k t.home).chain → (held_of k t.home).chain ≡ (held_of k u.home).chain → t.home ≡ u.home
  chain_once t u ht hu some e = holds.memory.owned.one_chain t u ht hu (subst (λ n. 0 < n) (chains_are t ht) some) (sym (chains_are t ht) ∙ e ∙ chains_are u hu)

pub chains_of : (read : DirectoriesAreRead) (k : Machine) → RepresentsShown k → ChainFacts k
chains_of read k r = record {
  shelf = r.storage.shelf;
  is = r.stands.storage.shelf;
  each = each_chained read (sight_of k) r.storage k.cpu.critical r.ordered r.stands.session.holds r.stands.tables;
  owned = chain_owned read (sight_of k) r.storage k.cpu.critical r.ordered r.stands.session.holds r.stands.tables;
  once = chain_once read (sight_of k) r.storage k.cpu.critical r.ordered r.stands.session.holds r.stands.tables;
}
