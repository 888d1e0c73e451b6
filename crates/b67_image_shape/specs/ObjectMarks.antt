-- What is asked of objects, areas and chains, by a table that says at which addresses of core an original or a segment descriptor
-- stands. Nothing else of core is spoken of but the words of areas' heads, tails and holes, and the tags in present objects' areas.
use Rattle.std.specs.Prelude.{◌≡◌, ◌≢◌, ◌⊎◌, ℕ, ◌+◌, ◌<◌, Bool, false, true, List, length, Some, slice_index, slice_index_or}
use Rattle.b67_word.specs.Tagged.{Tagged}
use Rattle.b67_ctl.specs.declared.descriptors.DataDesc.{DataDesc}
use Rattle.b67_ctl.specs.Descriptors.{data_word, seg_word}
use Rattle.b67_area.specs.declared.Info.{Info}
use Rattle.b67_area.specs.declared.Kind.{Kind}
use Rattle.b67_area.specs.declared.Kind.TheVariants.{Array, Row, Code}
use Rattle.b67_area.specs.Spans.{area_at}
use Rattle.b67_area.specs.Directory.{IsDirectory}
use Rattle.b67_backing.specs.Held.{sectors_for}
use Rattle.b67_model.specs.declared.limits.TheConstants.{MOST_ARRAY, MOST_SEGMENT}
use Rattle.b67_lemmas.specs.Lists.{Has}
use Rattle.b67_stack.specs.Common.{PagedObject, tag_of}
use Rattle.b67_layout_shown.specs.Reading.{word_seen_at, desc_in}
use Rattle.b67_layout_shown.specs.Shown.{contents_by}
use Rattle.b67_image_shape.specs.Held.{location_in, spans_of}
use Rattle.b67_image_shape.specs.Chains.{IsChainHead, IsSectorChain}

-- ---- the table

-- what it says where an object of a kind stands; 0 is none
abbrev pub kind_code : Kind → ℕ
kind_code Array = 1
kind_code Row = 2
kind_code Code = 3

abbrev pub desc_at : List Tagged → ℕ → DataDesc
desc_at core i = desc_in (word_seen_at core i)

-- the numbers of the object whose descriptor stands at an address
abbrev pub numbers_there : List Tagged → ℕ → List ℕ
numbers_there core i = let d = desc_at core i in contents_by core d.length d.address d.present

-- the table marks these objects, whose numbers are those that core has
pub record AreMarked (core : List Tagged) (kinds : List ℕ) (objects : List PagedObject) : Type 0 where
  pub each : (t : PagedObject) → Has objects t → slice_index kinds t.home ≡ kind_code t.kind
  pub only : (i : ℕ) → slice_index kinds i ≢ 0 → (t : PagedObject) × Has objects t × (t.home ≡ i)
  pub inside : (t : PagedObject) → Has objects t → t.home < length core
  pub numbers : (t : PagedObject) → Has objects t → t.numbers ≡ numbers_there core t.home

-- ---- what is asked of each object

-- the word of a descriptor of that kind with these fields
abbrev pub described : Kind → DataDesc → Tagged
described Array d = data_word (record { present = d.present; copy = false; indexed = false; read_only = false; length = d.length; address = d.address })
described Row d = data_word (record { present = d.present; copy = false; indexed = false; read_only = true; length = d.length; address = d.address })
described Code d = seg_word (record { present = d.present; words = d.length; address = d.address })

abbrev pub longest : Kind → ℕ
longest Array = MOST_ARRAY + 1
longest Row = MOST_ARRAY + 1
longest Code = MOST_SEGMENT + 1

-- what the head and tail of an object's area say
abbrev pub info_at : List Tagged → ℕ → Kind → Info
info_at core i kind = record { kind = kind; words = (desc_at core i).length; owner = i; kept = (location_in core i).chain }

abbrev pub HaveTag : List Tagged → ℕ → ℕ → ℕ → Type 0
HaveTag core at words tag = (j : ℕ) → j < words → (word_seen_at core (at + j)).tag ≡ tag

-- the area of a present object, and the tags of its words
pub record HasArea (core : List Tagged) (low i : ℕ) (kind : Kind) : Type 0 where
  pub area : area_at low (spans_of core low) (desc_at core i).address ≡ Some (info_at core i kind)
  pub tags : HaveTag core (desc_at core i).address (desc_at core i).length (tag_of kind)

-- an array need not have a chain
abbrev pub HasChainOr : List ℕ → Kind → ℕ → ℕ → Type 0
HasChainOr links Array first words = (first ≡ 0) ⊎ IsSectorChain links first (sectors_for words)
HasChainOr links Row first words = IsSectorChain links first (sectors_for words)
HasChainOr links Code first words = IsSectorChain links first (sectors_for words)

pub record ObjectFits (core : List Tagged) (low : ℕ) (links : List ℕ) (i : ℕ) (kind : Kind) : Type 0 where
  pub word : word_seen_at core i ≡ described kind (desc_at core i)
  pub some : 0 < (desc_at core i).length
  pub few : (desc_at core i).length < longest kind
  pub present : (desc_at core i).present ≡ true → HasArea core low i kind
  pub chain : HasChainOr links kind (location_in core i).chain (desc_at core i).length

-- an area is that of the object that its head names
pub record AreaFits (core : List Tagged) (kinds : List ℕ) (at : ℕ) (a : Info) : Type 0 where
  pub owner : slice_index kinds a.owner ≡ kind_code a.kind
  pub present : (desc_at core a.owner).present ≡ true
  pub address : (desc_at core a.owner).address ≡ at
  pub words : (desc_at core a.owner).length ≡ a.words

-- core has a directory, and each area's object says that it has it
pub record AreasFit (core : List Tagged) (low : ℕ) (kinds : List ℕ) : Type 0 where
  pub directory : IsDirectory core low (spans_of core low)
  pub areas : (at : ℕ) (a : Info) → area_at low (spans_of core low) at ≡ Some a → AreaFits core kinds at a

-- areas, chains and objects belong together
pub record AreKept (core : List Tagged) (low : ℕ) (kinds links : List ℕ) : Type 0 where
  pub areas : AreasFit core low kinds
  pub objects : (i : ℕ) (kind : Kind) → slice_index kinds i ≡ kind_code kind → ObjectFits core low links i kind
  pub one : (i j : ℕ) → slice_index kinds i ≢ 0 → slice_index kinds j ≢ 0 → 0 < (location_in core i).chain → (location_in core i).chain ≡ (location_in core j).chain → i ≡ j
  pub all : (n : ℕ) → IsChainHead links n → (i : ℕ) × (slice_index kinds i ≢ 0) × ((location_in core i).chain ≡ n)

-- the objects that stand below an address have what they must have, and the sectors that begin their chains are marked
pub record ObjectsClaim (core : List Tagged) (low : ℕ) (kinds links : List ℕ) (n : ℕ) (claimed : List Bool) : Type 0 where
  pub many : length claimed ≡ length links + 1
  pub objects : (i : ℕ) (kind : Kind) → i < n → slice_index kinds i ≡ kind_code kind → ObjectFits core low links i kind
  pub one : (i j : ℕ) → i < n → j < n → slice_index kinds i ≢ 0 → slice_index kinds j ≢ 0 → 0 < (location_in core i).chain → (location_in core i).chain ≡ (location_in core j).chain → i ≡ j
  pub marked : (i : ℕ) → i < n → slice_index kinds i ≢ 0 → 0 < (location_in core i).chain → slice_index_or claimed (location_in core i).chain false ≡ true
  pub only : (m : ℕ) → slice_index_or claimed m false ≡ true → (i : ℕ) × (i < n) × (slice_index kinds i ≢ 0) × ((location_in core i).chain ≡ m)

-- the lengths that objects of a session in order have
abbrev pub AreLong : List PagedObject → Type 0
AreLong objects = (t : PagedObject) → Has objects t → (0 < length t.numbers) × (length t.numbers < longest t.kind)
