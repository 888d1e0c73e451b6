-- The fields of control words.
use Rattle.std.proofs.Common.{◌≡◌, ℕ, ◌+◌, ◌*◌, ◌/◌, ◌%◌, ◌^◌, ◌<◌, ◌≤◌, ◌==◌, Bool, arith, refl}
use Rattle.b67_word.specs.Tagged.{word, bits_at}
use Rattle.b67_ctl.specs.Layout.{flag_bit, mscw_word}
use Rattle.b67_ctl.specs.Descriptors.{data_word}
use Rattle.b67_ctl.specs.declared.descriptors.DataDesc.{DataDesc}
use Rattle.b67_ctl.specs.declared.marks.Mscw.{Mscw}
use Rattle.b67_layout_shown.specs.Reading.{is_set, mscw_in, desc_in}

pub flag : (b : Bool) (n : ℕ) → n ≡ flag_bit b → (n == 1) ≡ b
flag b n e = grind arith

pub bit_small : (b : Bool) → flag_bit b ≤ 1
bit_small b = grind arith

module _ (a b c d e l k : ℕ) (ah : a ≤ 1) (bh : b ≤ 1) (ch : c < 2 ^ 10) (dh : d < 2 ^ 16) (eh : e ≤ 1) (lh : l < 2 ^ 5) (kh : k < 2 ^ 14) where
  mark_47 : (a * 2 ^ 47 + b * 2 ^ 46 + c * 2 ^ 36 + d * 2 ^ 20 + e * 2 ^ 19 + l * 2 ^ 14 + k) / 2 ^ 47 % 2 ^ 1 ≡ a
  mark_47 = omega arith

  mark_46 : (a * 2 ^ 47 + b * 2 ^ 46 + c * 2 ^ 36 + d * 2 ^ 20 + e * 2 ^ 19 + l * 2 ^ 14 + k) / 2 ^ 46 % 2 ^ 1 ≡ b
  mark_46 = omega arith

  mark_36 : (a * 2 ^ 47 + b * 2 ^ 46 + c * 2 ^ 36 + d * 2 ^ 20 + e * 2 ^ 19 + l * 2 ^ 14 + k) / 2 ^ 36 % 2 ^ 10 ≡ c
  mark_36 = omega arith

  mark_20 : (a * 2 ^ 47 + b * 2 ^ 46 + c * 2 ^ 36 + d * 2 ^ 20 + e * 2 ^ 19 + l * 2 ^ 14 + k) / 2 ^ 20 % 2 ^ 16 ≡ d
  mark_20 = omega arith

  mark_19 : (a * 2 ^ 47 + b * 2 ^ 46 + c * 2 ^ 36 + d * 2 ^ 20 + e * 2 ^ 19 + l * 2 ^ 14 + k) / 2 ^ 19 % 2 ^ 1 ≡ e
  mark_19 = omega arith

  mark_14 : (a * 2 ^ 47 + b * 2 ^ 46 + c * 2 ^ 36 + d * 2 ^ 20 + e * 2 ^ 19 + l * 2 ^ 14 + k) / 2 ^ 14 % 2 ^ 5 ≡ l
  mark_14 = omega arith

  mark_0 : (a * 2 ^ 47 + b * 2 ^ 46 + c * 2 ^ 36 + d * 2 ^ 20 + e * 2 ^ 19 + l * 2 ^ 14 + k) / 2 ^ 0 % 2 ^ 14 ≡ k
  mark_0 = omega arith

-- a mark is read
pub mscw_read : (m : Mscw) → m.env_stack < 2 ^ 10 → m.env_disp < 2 ^ 16 → m.level < 2 ^ 5 → m.back < 2 ^ 14 → mscw_in (mscw_word m) ≡ m
mscw_read m ch dh lh kh =
    let a = flag_bit m.far in
    let b = flag_bit m.entered in
    let v = flag_bit m.value in
    let ah = bit_small m.far in
    let bh = bit_small m.entered in
    let vh = bit_small m.value in
    rw (
      flag m.far _ (mark_47 a b m.env_stack m.env_disp v m.level m.back ah bh ch dh vh lh kh),
      flag m.entered _ (mark_46 a b m.env_stack m.env_disp v m.level m.back ah bh ch dh vh lh kh),
      mark_36 a b m.env_stack m.env_disp v m.level m.back ah bh ch dh vh lh kh,
      mark_20 a b m.env_stack m.env_disp v m.level m.back ah bh ch dh vh lh kh,
      flag m.value _ (mark_19 a b m.env_stack m.env_disp v m.level m.back ah bh ch dh vh lh kh),
      mark_14 a b m.env_stack m.env_disp v m.level m.back ah bh ch dh vh lh kh,
      mark_0 a b m.env_stack m.env_disp v m.level m.back ah bh ch dh vh lh kh,
    ) refl

module _ (a b c d l k : ℕ) (ah : a ≤ 1) (bh : b ≤ 1) (ch : c ≤ 1) (dh : d ≤ 1) (lh : l < 2 ^ 20) (kh : k < 2 ^ 20) where
  desc_47 : (a * 2 ^ 47 + b * 2 ^ 46 + c * 2 ^ 45 + d * 2 ^ 43 + l * 2 ^ 20 + k) / 2 ^ 47 % 2 ^ 1 ≡ a
  desc_47 = omega arith

  desc_46 : (a * 2 ^ 47 + b * 2 ^ 46 + c * 2 ^ 45 + d * 2 ^ 43 + l * 2 ^ 20 + k) / 2 ^ 46 % 2 ^ 1 ≡ b
  desc_46 = omega arith

  desc_45 : (a * 2 ^ 47 + b * 2 ^ 46 + c * 2 ^ 45 + d * 2 ^ 43 + l * 2 ^ 20 + k) / 2 ^ 45 % 2 ^ 1 ≡ c
  desc_45 = omega arith

  desc_43 : (a * 2 ^ 47 + b * 2 ^ 46 + c * 2 ^ 45 + d * 2 ^ 43 + l * 2 ^ 20 + k) / 2 ^ 43 % 2 ^ 1 ≡ d
  desc_43 = omega arith

  desc_20 : (a * 2 ^ 47 + b * 2 ^ 46 + c * 2 ^ 45 + d * 2 ^ 43 + l * 2 ^ 20 + k) / 2 ^ 20 % 2 ^ 20 ≡ l
  desc_20 = omega arith

  desc_0 : (a * 2 ^ 47 + b * 2 ^ 46 + c * 2 ^ 45 + d * 2 ^ 43 + l * 2 ^ 20 + k) / 2 ^ 0 % 2 ^ 20 ≡ k
  desc_0 = omega arith

-- a data descriptor is read
pub desc_read : (d : DataDesc) → d.length < 2 ^ 20 → d.address < 2 ^ 20 → desc_in (data_word d) ≡ d
desc_read d lh kh =
    let a = flag_bit d.present in
    let b = flag_bit d.copy in
    let c = flag_bit d.indexed in
    let r = flag_bit d.read_only in
    let ah = bit_small d.present in
    let bh = bit_small d.copy in
    let ch = bit_small d.indexed in
    let rh = bit_small d.read_only in
    rw (
      flag d.present _ (desc_47 a b c r d.length d.address ah bh ch rh lh kh),
      flag d.copy _ (desc_46 a b c r d.length d.address ah bh ch rh lh kh),
      flag d.indexed _ (desc_45 a b c r d.length d.address ah bh ch rh lh kh),
      flag d.read_only _ (desc_43 a b c r d.length d.address ah bh ch rh lh kh),
      desc_20 a b c r d.length d.address ah bh ch rh lh kh,
      desc_0 a b c r d.length d.address ah bh ch rh lh kh,
    ) refl

-- the owner in an area's head
pub owner_read : (kind words owner : ℕ) → owner < 2 ^ 20 → (kind * 2 ^ 46 + words * 2 ^ 20 + owner) / 2 ^ 0 % 2 ^ 20 ≡ owner
owner_read kind words owner h = omega arith

-- references, stuffed or not, and procedures
module _ (k d o : ℕ) (kh : k < 2 ^ 10) (dh : d < 2 ^ 16) (oh : o < 2 ^ 13) where
  pub sirw_46 : (2 ^ 46 + k * 2 ^ 36 + d * 2 ^ 20 + o) / 2 ^ 46 % 2 ^ 1 ≡ 1
  sirw_46 = omega arith

  pub sirw_36 : (2 ^ 46 + k * 2 ^ 36 + d * 2 ^ 20 + o) / 2 ^ 36 % 2 ^ 10 ≡ k
  sirw_36 = omega arith

  pub sirw_20 : (2 ^ 46 + k * 2 ^ 36 + d * 2 ^ 20 + o) / 2 ^ 20 % 2 ^ 16 ≡ d
  sirw_20 = omega arith

  pub sirw_0 : (2 ^ 46 + k * 2 ^ 36 + d * 2 ^ 20 + o) / 2 ^ 0 % 2 ^ 13 ≡ o
  sirw_0 = omega arith

pub irw_46 : (c : ℕ) → c < 2 ^ 14 → c / 2 ^ 46 % 2 ^ 1 ≡ 0
irw_46 c h = omega arith

pub irw_0 : (c : ℕ) → c < 2 ^ 14 → c / 2 ^ 0 % 2 ^ 14 ≡ c
irw_0 c h = omega arith

-- a segment descriptor
pub seg_read : (p : Bool) (w a : ℕ) → w < 2 ^ 20 → a < 2 ^ 20 → let v = word 3 (flag_bit p * 2 ^ 47 + w * 2 ^ 20 + a) in (is_set v 47 ≡ p) × (bits_at v 20 20 ≡ w) × (bits_at v 0 20 ≡ a)
seg_read p w a wh ah = grind arith
