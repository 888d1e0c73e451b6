-- The objects of segments and of data rows, item by item.
use Rattle.std.proofs.Common.{◌≡◌, Option, ℕ, zero, suc, ◌+◌, ◌<◌, ◌≤◌, List, [], ◌∷◌, length, map, drop, get_or, refl, sym, ◌∙◌, ap, arith, inl, inr, ⊎_elim, subst, slice_set, add-one, drop-cons}
use Rattle.std.proofs.lemmas.List.{length-map}
use Rattle.b67_word.specs.Tagged.{Tagged, word, contents}
use Rattle.b67_area.specs.declared.Kind.TheVariants.{Code, Row}
use Rattle.b67_codefile.specs.declared.file.Segment.{Segment}
use Rattle.b67_codefile.specs.Meaning.{segment_of, program_of}
use Rattle.b67_model.specs.State as state
use Rattle.b67_backing.specs.Held.{sectors_for}
use Rattle.b67_lemmas.specs.Lists.{Has, total}
use Rattle.b67_lemmas.proofs.Members.{total_append}
use Rattle.b67_model.specs.Program.{Program}
use Rattle.b67_stack.specs.MachineView.{PagedObject}
use Rattle.b67_load.specs.Objects.{code_from, rows_from, program_objects, entries_of, object_sectors, sectors_of_objects, sectors_of_program}
use Rattle.b67_load.specs.StoredObjects.{placed, dictionary_mark, DescriptorsStand, DictionaryIs, SameOutside}
use Rattle.b67_backing.specs.Shelf.{Shelf, IsShelf}
use Rattle.b67_load.specs.Writing.{Parts, Spares, Writes, Installed}
use Rattle.b67_codefile.specs.declared.file.Codefile.{Codefile}
use Rattle.b67_load.proofs.Writing.{word_set, outside_set, writes_both, spares_both, spares_wider}

pub length-code_from : (at : ℕ) (segments : List state.Segment) → length (code_from at segments) ≡ length segments
length-code_from at [] = refl
length-code_from at (s ∷ more) = ap suc (length-code_from (at + 1) more)

pub length-rows_from : (at : ℕ) (rows : List (List ℕ)) → length (rows_from at rows) ≡ length rows
length-rows_from at [] = refl
length-rows_from at (r ∷ more) = ap suc (length-rows_from (at + 1) more)

-- the first of the items that are left
at_front : {A : Type 0} (xs : List A) (i : ℕ) (x : A) → x ≡ get_or xs i x → i < length xs → drop i xs ≡ x ∷ drop (i + 1) xs
at_front xs i x e h = rw add-one (drop-cons xs i x h ∙ ap (λ y. y ∷ drop (suc i) xs) (sym e))

pub code_step : (at i : ℕ) (segments : List Segment) (s : Segment) → s ≡ get_or segments i s → i < length segments
    → code_from at (map segment_of (drop i segments)) ≡ record { home = at; kind = Code; numbers = contents s.code } ∷ code_from (at + 1) (map segment_of (drop (i + 1) segments))
code_step at i segments s e h = ap (λ (q : List Segment). code_from at (map segment_of q)) (at_front segments i s e h)

pub rows_step : (at i : ℕ) (rows : List (List Tagged)) (r : List Tagged) → r ≡ get_or rows i r → i < length rows
    → rows_from at (map contents (drop i rows)) ≡ record { home = at; kind = Row; numbers = contents r } ∷ rows_from (at + 1) (map contents (drop (i + 1) rows))
rows_step at i rows r e h = ap (λ (q : List (List Tagged)). rows_from at (map contents q)) (at_front rows i r e h)

none_left : {A : Type 0} (xs : List A) (i : ℕ) → length xs ≤ i → drop i xs ≡ []
none_left [] zero h = refl
none_left [] (suc i) h = refl
none_left (x ∷ xs) zero h = absurd (omega arith)
none_left (x ∷ xs) (suc i) h = none_left xs i (omega arith)

pub code_end : (at i : ℕ) (segments : List Segment) → length segments ≤ i → code_from at (map segment_of (drop i segments)) ≡ []
code_end at i segments h = ap (λ (q : List Segment). code_from at (map segment_of q)) (none_left segments i h)

pub rows_end : (at i : ℕ) (rows : List (List Tagged)) → length rows ≤ i → rows_from at (map contents (drop i rows)) ≡ []
rows_end at i rows h = ap (λ (q : List (List Tagged)). rows_from at (map contents q)) (none_left rows i h)

-- the sectors of a program are those of its objects
total-code_from : (at : ℕ) (segments : List state.Segment) → total object_sectors (code_from at segments) ≡ total (λ (s : state.Segment). sectors_for (length s.code)) segments
total-code_from at [] = refl
total-code_from at (s ∷ more) = ap (λ (n : ℕ). sectors_for (length s.code) + n) (total-code_from (at + 1) more)

total-rows_from : (at : ℕ) (rows : List (List ℕ)) → total object_sectors (rows_from at rows) ≡ total (λ (r : List ℕ). sectors_for (length r)) rows
total-rows_from at [] = refl
total-rows_from at (r ∷ more) = ap (λ (n : ℕ). sectors_for (length r) + n) (total-rows_from (at + 1) more)

pub sectors-objects : (base : ℕ) (p : Program) → sectors_of_objects (program_objects base p) ≡ sectors_of_program p
sectors-objects base p = grind (arith, total_append, total-code_from, total-rows_from)

-- segments lie where they begin and below their end
pub code_low : (at : ℕ) (segments : List state.Segment) (t : PagedObject) → Has (code_from at segments) t → (at ≤ t.home) × (t.home < at + length segments)
code_low at [] t h = absurd h
code_low at (s ∷ more) t (inl e) = let k : at ≡ t.home = ap (λ (u : PagedObject). u.home) e in (omega (arith, k), omega (arith, k))
code_low at (s ∷ more) t (inr h) = let (low, high) = code_low (at + 1) more t h in (omega (arith, low), omega (arith, high))

pub sectors-parts : (base : ℕ) (f : Codefile) (segments : List Segment) (rows : List (List Tagged)) → segments ≡ f.segments → rows ≡ f.rows
    → sectors_of_objects (code_from (base + 2) (map segment_of segments)) + sectors_of_objects (rows_from (base + (2 + length segments)) (map contents rows)) ≡ sectors_of_objects (program_objects base (program_of f))
sectors-parts base f segments rows e q = grind (arith, length-map, total_append)

-- segments and then rows
pub all_written : {D : Type 0} (tell : D → Option (List (List ℕ))) (base : ℕ) (f : Codefile) (segments : List Segment) (rows : List (List Tagged)) (a b c : Parts D) → segments ≡ f.segments → rows ≡ f.rows
    → Writes tell (code_from (base + 2) (map segment_of segments)) a b → Spares tell (base + (2 + length segments)) (length rows) b c
    → Writes tell (rows_from (base + (2 + length segments)) (map contents rows)) b c → Writes tell (program_objects base (program_of f)) a c
all_written tell base f segments rows a b c e q w s v =
    rw (← e, ← q, length-map segments segment_of) (writes_both tell (code_from (base + 2) (map segment_of segments)) (rows_from (base + (2 + length segments)) (map contents rows)) (base + (2 + length segments)) (length rows) a b c w v s (λ t h. inl (let (_, high) = code_low (base + 2) (map segment_of segments) t h in omega (arith, high, length-map segments segment_of))))

pub all_spared : {D : Type 0} (tell : D → Option (List (List ℕ))) (base : ℕ) (f : Codefile) (segments : List Segment) (rows : List (List Tagged)) (a b c : Parts D) → segments ≡ f.segments → rows ≡ f.rows
    → Spares tell (base + 2) (length segments) a b → Spares tell (base + (2 + length segments)) (length rows) b c → Spares tell (base + 2) (entries_of (program_of f)) a c
all_spared tell base f segments rows a b c e q s t =
    let long : entries_of (program_of f) ≡ length segments + length rows = omega (arith, length-map f.segments segment_of, length-map f.rows contents, ap length e, ap length q) in
    spares_both tell (base + 2) (entries_of (program_of f)) a b c
    (spares_wider tell (base + 2) (length segments) (base + 2) (entries_of (program_of f)) a b (omega arith) (omega (arith, long)) s)
    (spares_wider tell (base + (2 + length segments)) (length rows) (base + 2) (entries_of (program_of f)) b c (omega arith) (omega (arith, long)) t)

-- the two words before the entries are written first
dictionary_stands : {D : Type 0} (tell : D → Option (List (List ℕ))) (base : ℕ) (f g : Codefile) (core one : List Tagged) (m n : Tagged) (a b : Parts D) (k : ℕ) → f ≡ g
    → base + 1 < length core → one ≡ slice_set core base m → length one ≡ length core → a.core ≡ slice_set one (base + 1) n
    → m ≡ dictionary_mark → n ≡ word 0 (entries_of (program_of g)) → Spares tell (base + 2) k a b → Writes tell (program_objects base (program_of f)) a b
    → (st : Shelf) → IsShelf a.table st → DictionaryIs b.core base (program_of g) st.free
dictionary_stands tell base f g core one m n a b k same inside first_set len second_set mark_is count_is s w st is = record {
  mark = s.outside base (inl (omega arith)) ∙ outside_set one a.core (base + 1) n second_set base (inl (omega arith)) ∙ word_set core one base m dictionary_mark (omega arith) first_set mark_is;
  entries = s.outside (base + 1) (inl (omega arith)) ∙ word_set one a.core (base + 1) n (word 0 (entries_of (program_of g))) (omega (arith, len)) second_set count_is;
  descriptors = subst (λ (x : Codefile). DescriptorsStand b.core (placed (program_objects base (program_of x)) st.free)) same (w.descriptors st is);
}

dictionary_outside : {D : Type 0} (tell : D → Option (List (List ℕ))) (base : ℕ) (core one : List Tagged) (m n : Tagged) (a b : Parts D) (k : ℕ)
    → one ≡ slice_set core base m → a.core ≡ slice_set one (base + 1) n → Spares tell (base + 2) k a b → SameOutside base (base + (2 + k)) core b.core
dictionary_outside tell base core one m n a b k first_set second_set s i h =
    s.outside i (⊎_elim (λ (l : i < base). inl (omega arith)) (λ (l : base + (2 + k) ≤ i). inr (omega arith)) h)
    ∙ outside_set one a.core (base + 1) n second_set i (⊎_elim (λ (l : i < base). inl (omega arith)) (λ (l : base + (2 + k) ≤ i). inr (omega arith)) h)
    ∙ outside_set core one base m first_set i (⊎_elim (λ (l : i < base). inl (omega arith)) (λ (l : base + (2 + k) ≤ i). inr (omega arith)) h)

-- what a program's dictionary and its objects leave
pub all_installed : {D : Type 0} (tell : D → Option (List (List ℕ))) (base : ℕ) (f g : Codefile) (core one : List Tagged) (m n : Tagged) (a b : Parts D) (k : ℕ) → f ≡ g
    → base + 1 < length core → one ≡ slice_set core base m → length one ≡ length core → a.core ≡ slice_set one (base + 1) n
    → m ≡ dictionary_mark → n ≡ word 0 (entries_of (program_of g)) → Spares tell (base + 2) k a b → Writes tell (program_objects base (program_of f)) a b
    → Installed tell base (program_of g) (record a { core = core }) b
all_installed tell base f g core one m n a b k same inside first_set len second_set mark_is count_is s w =
    let there : (st : Shelf) → IsShelf a.table st → DictionaryIs b.core base (program_of g) st.free =
    dictionary_stands tell base f g core one m n a b k same inside first_set len second_set mark_is count_is s w in
    subst (λ (x : Codefile). Installed tell base (program_of x) (record a { core = core }) b) same
    (record {
      dictionary = subst (λ (x : Codefile). (st : Shelf) → IsShelf a.table st → DictionaryIs b.core base (program_of x) st.free) (sym same) there;
      shelf = w.shelf;
      stocks = w.stocks;
      left = omega (arith, w.left, sectors-objects base (program_of f));
    })

pub all_spares : {D : Type 0} (tell : D → Option (List (List ℕ))) (base : ℕ) (core one : List Tagged) (m n : Tagged) (a b : Parts D) (k : ℕ)
    → one ≡ slice_set core base m → length one ≡ length core → a.core ≡ slice_set one (base + 1) n → length a.core ≡ length one → Spares tell (base + 2) k a b
    → Spares tell base (2 + k) (record a { core = core }) b
all_spares tell base core one m n a b k first_set one_len second_set two_len s = record {
  outside = λ i h. dictionary_outside tell base core one m n a b k first_set second_set s i h;
  len = s.len ∙ two_len ∙ one_len;
  links = s.links;
  chains = s.chains;
  others = s.others;
}

pub entries_word : (f g : Codefile) (segments : List Segment) (rows : List (List Tagged)) → f ≡ g → segments ≡ f.segments → rows ≡ f.rows → word 0 (length segments + length rows) ≡ word 0 (entries_of (program_of g))
entries_word f g segments rows e p q = grind (arith, length-map)
