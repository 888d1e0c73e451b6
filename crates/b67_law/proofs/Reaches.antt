-- Reaches that are alike: the same identities, and the same entered frames.
use Rattle.std.proofs.Common.{◌≡◌, ℕ, List, [], ◌∷◌, ◌++◌, map, Some, refl, sym, ap, ◌∙◌, subst, inl, inr, arith}
use Rattle.std.specs.List.{AllByRecursion}
use Rattle.b67_model.specs.Keyed.{keyed}
use Rattle.b67_lemmas.specs.Lists.{Has}
use Rattle.b67_lemmas.proofs.Members.{has_map, keyed_has}
use Rattle.b67_model.specs.Words as Words
use Rattle.b67_model.specs.Common.{Word, Operand, Name, Ref, Row, Element, Original, Proc, Intrinsic, Frame, Standing, Marked, Entered, Array, Task, Job, Starts, Known, known_of, from_frame, base, outer_reach, known_numbers, identities, IsEntered, NamesEntered, NamesArray, WordInOrder, StandsInOrder, FramesInOrder, ParentInOrder, BirthInOrder}

-- one after the other: the same identities, and what was entered stands as before
abbrev pub Alike : List Known → List Known → Type 0
Alike [] [] = Unit {0}
Alike [] (l ∷ ls) = ⊥
Alike (k ∷ ks) [] = ⊥
Alike (k ∷ ks) (l ∷ ls) = (k.0 ≡ l.0) × (IsEntered k.1 → k.1 ≡ l.1) × Alike ks ls

pub alike_same : (ks : List Known) → Alike ks ks
alike_same [] = tt
alike_same (k ∷ ks) = (refl, λ e. refl, alike_same ks)

pub alike_append : (ks ls ms ns : List Known) → Alike ks ls → Alike ms ns → Alike (ks ++ ms) (ls ++ ns)
alike_append [] [] ms ns a b = b
alike_append [] (l ∷ ls) ms ns a b = absurd a
alike_append (k ∷ ks) [] ms ns a b = absurd a
alike_append (k ∷ ks) (l ∷ ls) ms ns a b = (a.0, a.1, alike_append ks ls ms ns a.2 b)

pub alike_numbers : (ks ls : List Known) → Alike ks ls → known_numbers ks ≡ known_numbers ls
alike_numbers [] [] a = refl
alike_numbers [] (l ∷ ls) a = absurd a
alike_numbers (k ∷ ks) [] a = absurd a
alike_numbers (k ∷ ks) (l ∷ ls) a = grind (arith, alike_numbers ks ls a.2)

pub alike_has : (ks ls : List Known) (n : ℕ) (s : Standing) → Alike ks ls → IsEntered s → Has ks (n, s) → Has ls (n, s)
alike_has [] [] n s a e h = absurd h
alike_has [] (l ∷ ls) n s a e h = absurd a
alike_has (k ∷ ks) [] n s a e h = absurd a
alike_has (k ∷ ks) (l ∷ ls) n s a e h = grind (arith, alike_has ks ls n s a.2 e)

-- the array is there, of whatever length
pub record Stays (arrays' : List Array) (a : Array) : Type 0 where
  pub item : Array
  pub live : Has arrays' item
  pub named : item.identity ≡ a.identity
  pub owned : item.owner ≡ a.owner

-- what a reach and its arrays show of another
pub record Wider (reach reach' : List Known) (arrays arrays' : List Array) : Type 0 where
  pub entered : (n : ℕ) (s : Standing) → IsEntered s → Has reach (n, s) → Has reach' (n, s)
  pub kept : (a : Array) → Has arrays a → Has (known_numbers reach') a.owner → Stays arrays' a

pub names_entered : (reach reach' : List Known) (arrays arrays' : List Array) (n : ℕ) → Wider reach reach' arrays arrays' → NamesEntered reach n → NamesEntered reach' n
names_entered reach reach' arrays arrays' n wide e = record { standing = e.standing; among = wide.entered n e.standing e.entered e.among; entered = e.entered }

pub known_number : (reach : List Known) (n : ℕ) (s : Standing) → Has reach (n, s) → Has (known_numbers reach) n
known_number reach n s h = has_map (λ (k : Known). k.0) reach (n, s) h

pub names_array : (reach reach' : List Known) (arrays arrays' : List Array) (array : ℕ) → Wider reach reach' arrays arrays' → NamesArray arrays reach array → NamesArray arrays' reach' array
names_array reach reach' arrays arrays' array wide e = grind (arith, known_number)

pub word_wider : (P : Starts) (reach reach' : List Known) (arrays arrays' : List Array) (owner : ℕ) → Wider reach reach' arrays arrays' → Has (known_numbers reach') owner → (w : Word) →
    WordInOrder P arrays reach owner w → WordInOrder P arrays' reach' owner w
word_wider P reach reach' arrays arrays' owner wide at w g = grind (arith, names_array)

pub words_wider : (P : Starts) (reach reach' : List Known) (arrays arrays' : List Array) (owner : ℕ) → Wider reach reach' arrays arrays' → Has (known_numbers reach') owner → (ws : List Word) →
    AllByRecursion (WordInOrder P arrays reach owner) ws → AllByRecursion (WordInOrder P arrays' reach' owner) ws
words_wider P reach reach' arrays arrays' owner wide at [] all = tt
words_wider P reach reach' arrays arrays' owner wide at (w ∷ ws) all =
    (word_wider P reach reach' arrays arrays' owner wide at w all.0, words_wider P reach reach' arrays arrays' owner wide at ws all.1)

pub stands_wider : (under under' : List Known) (s : Standing) → ((n : ℕ) (t : Standing) → IsEntered t → Has under (n, t) → Has under' (n, t)) → StandsInOrder under s → StandsInOrder under' s
stands_wider under under' s more g = grind arith

pub alike_under : (outer outer' : List Known) (fs : List Frame) → Alike outer outer' → Alike (map known_of fs ++ outer) (map known_of fs ++ outer')
alike_under outer outer' fs alike = alike_append (map known_of fs) (map known_of fs) outer outer' (alike_same (map known_of fs)) alike

-- frames stay in order where what lies outside them is alike and the arrays of their reach stay
pub frames_alike : (P : Starts) (arrays arrays' : List Array) (outer outer' : List Known) (frames : List Frame) → Alike outer outer' →
    ((a : Array) → Has arrays a → Has (known_numbers (map known_of frames ++ outer')) a.owner → Stays arrays' a) →
    FramesInOrder P arrays outer frames → FramesInOrder P arrays' outer' frames
frames_alike P arrays arrays' outer outer' [] alike stay g = tt
frames_alike P arrays arrays' outer outer' (f ∷ below) alike stay g =
    let same : (fs : List Frame) → Alike (map known_of fs ++ outer) (map known_of fs ++ outer') = λ fs. alike_under outer outer' fs alike in
    let wide : Wider (map known_of (f ∷ below) ++ outer) (map known_of (f ∷ below) ++ outer') arrays arrays' =
    record { entered = λ n s e h. alike_has (map known_of (f ∷ below) ++ outer) (map known_of (f ∷ below) ++ outer') n s (same (f ∷ below)) e h; kept = stay } in (
      (words_wider P (map known_of (f ∷ below) ++ outer) (map known_of (f ∷ below) ++ outer') arrays arrays' f.identity wide (inl refl) f.cells g.0.0, g.0.1),
      stands_wider (map known_of below ++ outer) (map known_of below ++ outer') f.standing (λ n t e h. alike_has (map known_of below ++ outer) (map known_of below ++ outer') n t (same below) e h) g.1,
      frames_alike P arrays arrays' outer outer' below alike (λ a h at. stay a h (inr at)) g.2,
    )

-- how a job follows another: its tasks of these numbers are there still, with frames that are alike from each critical one down
pub record Follower (job job' : Job) (n : ℕ) (q : Task) : Type 0 where
  pub item : Task
  pub found : keyed (λ t. t.number) n job'.tasks ≡ Some item
  pub critical : item.critical ≡ q.critical
  pub line : item.parents ≡ q.parents
  pub alike : (t : Task) → Has job.tasks t → Alike (map known_of (from_frame t.critical q.frames)) (map known_of (from_frame t.critical item.frames))
  pub stays : (t : Task) → Has job.tasks t → Has (identities q.frames) t.critical → Has (identities item.frames) t.critical

abbrev pub Follows : Job → Job → (ℕ → Type 0) → Type 0
Follows job job' Lives = (n : ℕ) (q : Task) → Lives n → keyed (λ t. t.number) n job.tasks ≡ Some q → Follower job job' n q

abbrev pub Births : Job → Type 0
Births job = (t : Task) → Has job.tasks t → BirthInOrder job t t.parents

-- what lies outside a task's frames is alike then
pub outer_alike : (job job' : Job) (Lives : ℕ → Type 0) → Follows job job' Lives → Births job → (t : Task) → Has job.tasks t → (parents : List ℕ) → t.parents ≡ parents →
    ((n : ℕ) → Has parents n → Lives n) → Alike (outer_reach job t.critical parents) (outer_reach job' t.critical parents)
outer_alike job job' Lives follows births t here [] line live = grind arith
outer_alike job job' Lives follows births t here (p ∷ more) line live =
    let birth : ParentInOrder job t p more = subst (BirthInOrder job t) line (births t here) in
    let q = birth.parent in
    let next : Follower job job' p q = follows p q (live p (inl refl)) birth.found in
    let rest : Alike (outer_reach job q.critical more) (outer_reach job' q.critical more) =
    outer_alike job job' Lives follows births q (keyed_has (λ u. u.number) p job.tasks q birth.found).0 more birth.line (λ n h. live n (inr h)) in
    let rest' : Alike (outer_reach job q.critical more) (outer_reach job' next.item.critical more) =
    subst (λ c. Alike (outer_reach job q.critical more) (outer_reach job' c more)) (sym next.critical) rest in
    rw (birth.found, next.found) (alike_append (map known_of (from_frame t.critical q.frames)) (map known_of (from_frame t.critical next.item.frames)) (outer_reach job q.critical more) (outer_reach job' next.item.critical more) (next.alike t here) rest')

pub birth_follows : (job job' : Job) (Lives : ℕ → Type 0) → Follows job job' Lives → (t : Task) → Has job.tasks t → (parents : List ℕ) → ((n : ℕ) → Has parents n → Lives n) →
    BirthInOrder job t parents → BirthInOrder job' t parents
birth_follows job job' Lives follows t here [] live b = b
birth_follows job job' Lives follows t here (p ∷ more) live b =
    let next : Follower job job' p b.parent = follows p b.parent (live p (inl refl)) b.found in
    record { parent = next.item; found = next.found; line = next.line ∙ b.line; older = b.older; is_critical = next.stays t here b.is_critical }
