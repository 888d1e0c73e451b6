use Rattle.std.proofs.Common.{ℕ, ◌+◌, ◌*◌, ◌^◌, ◌%◌, refl, subst}
use Rattle.b67_model.specs.declared.operators.Op.TheVariants.{Valc, Namc, Lt8, Lt16, Lt48, Mpcw, Brun, Brtr, Brfl}
use Rattle.b67_model.specs.declared.operators.Code.TheVariants as codes
use Rattle.b67_model.specs.Operators.{Alone, OneMore, TwoMore, Literal, branch, form_of}
use Rattle.b67_exec.specs.Operators.{BeginsWhole}
use Rattle.b67_exec.specs.declared.firsts.Near.TheVariants as nears
use Rattle.b67_exec.proofs.Through.{form_is, form_at}
use Rattle.b67_exec.proofs.Mades.{near_outcome, left_made}
use Rattle.b67_exec.proofs.arms.operate.Goals as goal

pub names-requires-clause-begins : goal.names-requires-clause-begins
names-requires-clause-begins c = form_at c.near_of.result nears.Namc c.first.result (c.args.reader.now.bits % 2 ^ 8) (λ top. OneMore (λ low. Namc (top % 64 * 256 + low))) c.near_of.ensures.form c.first.ensures c.in-Namc.is refl

pub literal_8-requires-clause-begins : goal.literal_8-requires-clause-begins
literal_8-requires-clause-begins c = form_is c.near_of.result nears.Lt8 c.first.result (c.args.reader.now.bits % 2 ^ 8) (OneMore Lt8) c.near_of.ensures.form c.first.ensures c.in-Lt8.is refl

pub literal_16-requires-clause-begins : goal.literal_16-requires-clause-begins
literal_16-requires-clause-begins c = form_is c.near_of.result nears.Lt16 c.first.result (c.args.reader.now.bits % 2 ^ 8) (TwoMore (λ high low. Lt16 (high * 256 + low))) c.near_of.ensures.form c.first.ensures c.in-Lt16.is refl

pub literal_word-requires-clause-begins : goal.literal_word-requires-clause-begins
literal_word-requires-clause-begins c = form_is c.near_of.result nears.Lt48 c.first.result (c.args.reader.now.bits % 2 ^ 8) (Literal Lt48) c.near_of.ensures.form c.first.ensures c.in-Lt48.is refl

pub literal_word-requires-in-Mpcw-clause-begins : goal.literal_word-requires-in-Mpcw-clause-begins
literal_word-requires-in-Mpcw-clause-begins c = form_is c.near_of.result nears.Mpcw c.first.result (c.args.reader.now.bits % 2 ^ 8) (Literal Mpcw) c.near_of.ensures.form c.first.ensures c.in-Mpcw.is refl

pub alone-requires-clause-begins : goal.alone-requires-clause-begins
alone-requires-clause-begins c = form_is c.near_of.result nears.Zero c.first.result (c.args.reader.now.bits % 2 ^ 8) (Alone codes.Zero) c.near_of.ensures.form c.first.ensures c.in-Zero.is refl

pub alone-requires-in-One-clause-begins : goal.alone-requires-in-One-clause-begins
alone-requires-in-One-clause-begins c = form_is c.near_of.result nears.One c.first.result (c.args.reader.now.bits % 2 ^ 8) (Alone codes.One) c.near_of.ensures.form c.first.ensures c.in-One.is refl

pub numbers-requires-clause-begins : goal.numbers-requires-clause-begins
numbers-requires-clause-begins c = form_is c.near_of.result nears.Add c.first.result (c.args.reader.now.bits % 2 ^ 8) (Alone codes.Add) c.near_of.ensures.form c.first.ensures c.in-Add.is refl

pub numbers-requires-in-Subt-clause-begins : goal.numbers-requires-in-Subt-clause-begins
numbers-requires-in-Subt-clause-begins c = form_is c.near_of.result nears.Subt c.first.result (c.args.reader.now.bits % 2 ^ 8) (Alone codes.Subt) c.near_of.ensures.form c.first.ensures c.in-Subt.is refl

pub numbers-requires-in-Less-clause-begins : goal.numbers-requires-in-Less-clause-begins
numbers-requires-in-Less-clause-begins c = form_is c.near_of.result nears.Less c.first.result (c.args.reader.now.bits % 2 ^ 8) (Alone codes.Less) c.near_of.ensures.form c.first.ensures c.in-Less.is refl

pub numbers-requires-in-Greq-clause-begins : goal.numbers-requires-in-Greq-clause-begins
numbers-requires-in-Greq-clause-begins c = form_is c.near_of.result nears.Greq c.first.result (c.args.reader.now.bits % 2 ^ 8) (Alone codes.Greq) c.near_of.ensures.form c.first.ensures c.in-Greq.is refl

pub numbers-requires-in-Grtr-clause-begins : goal.numbers-requires-in-Grtr-clause-begins
numbers-requires-in-Grtr-clause-begins c = form_is c.near_of.result nears.Grtr c.first.result (c.args.reader.now.bits % 2 ^ 8) (Alone codes.Grtr) c.near_of.ensures.form c.first.ensures c.in-Grtr.is refl

pub numbers-requires-in-Lseq-clause-begins : goal.numbers-requires-in-Lseq-clause-begins
numbers-requires-in-Lseq-clause-begins c = form_is c.near_of.result nears.Lseq c.first.result (c.args.reader.now.bits % 2 ^ 8) (Alone codes.Lseq) c.near_of.ensures.form c.first.ensures c.in-Lseq.is refl

pub numbers-requires-in-Equl-clause-begins : goal.numbers-requires-in-Equl-clause-begins
numbers-requires-in-Equl-clause-begins c = form_is c.near_of.result nears.Equl c.first.result (c.args.reader.now.bits % 2 ^ 8) (Alone codes.Equl) c.near_of.ensures.form c.first.ensures c.in-Equl.is refl

pub numbers-requires-in-Neql-clause-begins : goal.numbers-requires-in-Neql-clause-begins
numbers-requires-in-Neql-clause-begins c = form_is c.near_of.result nears.Neql c.first.result (c.args.reader.now.bits % 2 ^ 8) (Alone codes.Neql) c.near_of.ensures.form c.first.ensures c.in-Neql.is refl

pub alone-requires-in-Push-clause-begins : goal.alone-requires-in-Push-clause-begins
alone-requires-in-Push-clause-begins c = form_is c.near_of.result nears.Push c.first.result (c.args.reader.now.bits % 2 ^ 8) (Alone codes.Push) c.near_of.ensures.form c.first.ensures c.in-Push.is refl

pub alone-requires-in-Dlet-clause-begins : goal.alone-requires-in-Dlet-clause-begins
alone-requires-in-Dlet-clause-begins c = form_is c.near_of.result nears.Dlet c.first.result (c.args.reader.now.bits % 2 ^ 8) (Alone codes.Dlet) c.near_of.ensures.form c.first.ensures c.in-Dlet.is refl

pub alone-requires-in-Exch-clause-begins : goal.alone-requires-in-Exch-clause-begins
alone-requires-in-Exch-clause-begins c = form_is c.near_of.result nears.Exch c.first.result (c.args.reader.now.bits % 2 ^ 8) (Alone codes.Exch) c.near_of.ensures.form c.first.ensures c.in-Exch.is refl

pub alone-requires-in-Dupl-clause-begins : goal.alone-requires-in-Dupl-clause-begins
alone-requires-in-Dupl-clause-begins c = form_is c.near_of.result nears.Dupl c.first.result (c.args.reader.now.bits % 2 ^ 8) (Alone codes.Dupl) c.near_of.ensures.form c.first.ensures c.in-Dupl.is refl

pub branches-requires-clause-begins : goal.branches-requires-clause-begins
branches-requires-clause-begins c = form_is c.near_of.result nears.Brfl c.first.result (c.args.reader.now.bits % 2 ^ 8) (branch Brfl) c.near_of.ensures.form c.first.ensures c.in-Brfl.is refl

pub branches-requires-in-Brtr-clause-begins : goal.branches-requires-in-Brtr-clause-begins
branches-requires-in-Brtr-clause-begins c = form_is c.near_of.result nears.Brtr c.first.result (c.args.reader.now.bits % 2 ^ 8) (branch Brtr) c.near_of.ensures.form c.first.ensures c.in-Brtr.is refl

pub jumps-requires-clause-begins : goal.jumps-requires-clause-begins
jumps-requires-clause-begins c = form_is c.near_of.result nears.Brun c.first.result (c.args.reader.now.bits % 2 ^ 8) (branch Brun) c.near_of.ensures.form c.first.ensures c.in-Brun.is refl

pub computes-requires-clause-begins : goal.computes-requires-clause-begins
computes-requires-clause-begins c = form_is c.near_of.result (nears.Far c.in-Far.code) c.first.result (c.args.reader.now.bits % 2 ^ 8) (Alone c.in-Far.code) c.near_of.ensures.form c.first.ensures c.in-Far.is refl

pub computes-requires-clause-top : goal.computes-requires-clause-top
computes-requires-clause-top c = c.near_of.ensures.far c.in-Far.code c.in-Far.is

pub evaluates-requires-clause-begins : goal.evaluates-requires-clause-begins
evaluates-requires-clause-begins c = form_at c.near_of.result nears.Valc c.first.result (c.args.reader.now.bits % 2 ^ 8) (λ top. OneMore (λ low. Valc (top % 64 * 256 + low))) c.near_of.ensures.form c.first.ensures c.in-Valc.is refl

pub stays-requires-clause-begins : goal.stays-requires-clause-begins
stays-requires-clause-begins c = form_is c.near_of.result nears.Indx c.first.result (c.args.reader.now.bits % 2 ^ 8) (Alone codes.Indx) c.near_of.ensures.form c.first.ensures c.in-Indx.is refl

pub stays-requires-in-Nxlv-clause-begins : goal.stays-requires-in-Nxlv-clause-begins
stays-requires-in-Nxlv-clause-begins c = form_is c.near_of.result nears.Nxlv c.first.result (c.args.reader.now.bits % 2 ^ 8) (Alone codes.Nxlv) c.near_of.ensures.form c.first.ensures c.in-Nxlv.is refl

pub stays-requires-in-Mkst-clause-begins : goal.stays-requires-in-Mkst-clause-begins
stays-requires-in-Mkst-clause-begins c = form_is c.near_of.result nears.Mkst c.first.result (c.args.reader.now.bits % 2 ^ 8) (Alone codes.Mkst) c.near_of.ensures.form c.first.ensures c.in-Mkst.is refl

pub stays-requires-in-Stff-clause-begins : goal.stays-requires-in-Stff-clause-begins
stays-requires-in-Stff-clause-begins c = form_is c.near_of.result nears.Stff c.first.result (c.args.reader.now.bits % 2 ^ 8) (Alone codes.Stff) c.near_of.ensures.form c.first.ensures c.in-Stff.is refl

pub stores-requires-clause-begins : goal.stores-requires-clause-begins
stores-requires-clause-begins c = form_is c.near_of.result nears.Stod c.first.result (c.args.reader.now.bits % 2 ^ 8) (Alone codes.Stod) c.near_of.ensures.form c.first.ensures c.in-Stod.is refl

pub stores-requires-in-Ston-clause-begins : goal.stores-requires-in-Ston-clause-begins
stores-requires-in-Ston-clause-begins c = form_is c.near_of.result nears.Ston c.first.result (c.args.reader.now.bits % 2 ^ 8) (Alone codes.Ston) c.near_of.ensures.form c.first.ensures c.in-Ston.is refl

pub loads-requires-clause-begins : goal.loads-requires-clause-begins
loads-requires-clause-begins c = form_is c.near_of.result nears.Load c.first.result (c.args.reader.now.bits % 2 ^ 8) (Alone codes.Load) c.near_of.ensures.form c.first.ensures c.in-Load.is refl

pub enters-requires-clause-begins : goal.enters-requires-clause-begins
enters-requires-clause-begins c = form_is c.near_of.result nears.Entr c.first.result (c.args.reader.now.bits % 2 ^ 8) (Alone codes.Entr) c.near_of.ensures.form c.first.ensures c.in-Entr.is refl

-- ---- what was made

pub returns-in-Far : goal.returns-in-Far
returns-in-Far c = near_outcome c.args.cpu.now c.computes.new.cpu c.args.reader.now c.computes.new.reader c.computes.result c.on.result c.computes.new.why c.on.ensures c.computes.ensures

pub returns-in-Namc : goal.returns-in-Namc
returns-in-Namc c = near_outcome c.args.cpu.now c.names.new.cpu c.args.reader.now c.names.new.reader c.names.result c.on-in-Namc.result c.names.new.why c.on-in-Namc.ensures c.names.ensures

pub returns-in-Lt8 : goal.returns-in-Lt8
returns-in-Lt8 c = near_outcome c.args.cpu.now c.literal_8.new.cpu c.args.reader.now c.literal_8.new.reader c.literal_8.result c.on-in-Lt8.result c.literal_8.new.why c.on-in-Lt8.ensures c.literal_8.ensures

pub returns-in-Lt16 : goal.returns-in-Lt16
returns-in-Lt16 c = near_outcome c.args.cpu.now c.literal_16.new.cpu c.args.reader.now c.literal_16.new.reader c.literal_16.result c.on-in-Lt16.result c.literal_16.new.why c.on-in-Lt16.ensures c.literal_16.ensures

pub returns-in-Lt48 : goal.returns-in-Lt48
returns-in-Lt48 c = near_outcome c.args.cpu.now c.literal_word.new.cpu c.args.reader.now c.literal_word.new.reader c.literal_word.result c.on-in-Lt48.result c.literal_word.new.why c.on-in-Lt48.ensures c.literal_word.ensures

pub returns-in-Mpcw : goal.returns-in-Mpcw
returns-in-Mpcw c = near_outcome c.args.cpu.now c.literal_word-in-Mpcw.new.cpu c.args.reader.now c.literal_word-in-Mpcw.new.reader c.literal_word-in-Mpcw.result c.on-in-Mpcw.result c.literal_word-in-Mpcw.new.why c.on-in-Mpcw.ensures c.literal_word-in-Mpcw.ensures

pub returns-in-Zero : goal.returns-in-Zero
returns-in-Zero c = near_outcome c.args.cpu.now c.alone.new.cpu c.args.reader.now c.alone.new.reader c.alone.result c.on-in-Zero.result c.alone.new.why c.on-in-Zero.ensures c.alone.ensures

pub returns-in-One : goal.returns-in-One
returns-in-One c = near_outcome c.args.cpu.now c.alone-in-One.new.cpu c.args.reader.now c.alone-in-One.new.reader c.alone-in-One.result c.on-in-One.result c.alone-in-One.new.why c.on-in-One.ensures c.alone-in-One.ensures

pub returns-in-Add : goal.returns-in-Add
returns-in-Add c = near_outcome c.args.cpu.now c.numbers.new.cpu c.args.reader.now c.numbers.new.reader c.numbers.result c.on-in-Add.result c.numbers.new.why c.on-in-Add.ensures c.numbers.ensures

pub returns-in-Subt : goal.returns-in-Subt
returns-in-Subt c = near_outcome c.args.cpu.now c.numbers-in-Subt.new.cpu c.args.reader.now c.numbers-in-Subt.new.reader c.numbers-in-Subt.result c.on-in-Subt.result c.numbers-in-Subt.new.why c.on-in-Subt.ensures c.numbers-in-Subt.ensures

pub returns-in-Less : goal.returns-in-Less
returns-in-Less c = near_outcome c.args.cpu.now c.numbers-in-Less.new.cpu c.args.reader.now c.numbers-in-Less.new.reader c.numbers-in-Less.result c.on-in-Less.result c.numbers-in-Less.new.why c.on-in-Less.ensures c.numbers-in-Less.ensures

pub returns-in-Greq : goal.returns-in-Greq
returns-in-Greq c = near_outcome c.args.cpu.now c.numbers-in-Greq.new.cpu c.args.reader.now c.numbers-in-Greq.new.reader c.numbers-in-Greq.result c.on-in-Greq.result c.numbers-in-Greq.new.why c.on-in-Greq.ensures c.numbers-in-Greq.ensures

pub returns-in-Grtr : goal.returns-in-Grtr
returns-in-Grtr c = near_outcome c.args.cpu.now c.numbers-in-Grtr.new.cpu c.args.reader.now c.numbers-in-Grtr.new.reader c.numbers-in-Grtr.result c.on-in-Grtr.result c.numbers-in-Grtr.new.why c.on-in-Grtr.ensures c.numbers-in-Grtr.ensures

pub returns-in-Lseq : goal.returns-in-Lseq
returns-in-Lseq c = near_outcome c.args.cpu.now c.numbers-in-Lseq.new.cpu c.args.reader.now c.numbers-in-Lseq.new.reader c.numbers-in-Lseq.result c.on-in-Lseq.result c.numbers-in-Lseq.new.why c.on-in-Lseq.ensures c.numbers-in-Lseq.ensures

pub returns-in-Equl : goal.returns-in-Equl
returns-in-Equl c = near_outcome c.args.cpu.now c.numbers-in-Equl.new.cpu c.args.reader.now c.numbers-in-Equl.new.reader c.numbers-in-Equl.result c.on-in-Equl.result c.numbers-in-Equl.new.why c.on-in-Equl.ensures c.numbers-in-Equl.ensures

pub returns-in-Neql : goal.returns-in-Neql
returns-in-Neql c = near_outcome c.args.cpu.now c.numbers-in-Neql.new.cpu c.args.reader.now c.numbers-in-Neql.new.reader c.numbers-in-Neql.result c.on-in-Neql.result c.numbers-in-Neql.new.why c.on-in-Neql.ensures c.numbers-in-Neql.ensures

pub returns-in-Push : goal.returns-in-Push
returns-in-Push c = near_outcome c.args.cpu.now c.alone-in-Push.new.cpu c.args.reader.now c.alone-in-Push.new.reader c.alone-in-Push.result c.on-in-Push.result c.alone-in-Push.new.why c.on-in-Push.ensures c.alone-in-Push.ensures

pub returns-in-Dlet : goal.returns-in-Dlet
returns-in-Dlet c = near_outcome c.args.cpu.now c.alone-in-Dlet.new.cpu c.args.reader.now c.alone-in-Dlet.new.reader c.alone-in-Dlet.result c.on-in-Dlet.result c.alone-in-Dlet.new.why c.on-in-Dlet.ensures c.alone-in-Dlet.ensures

pub returns-in-Exch : goal.returns-in-Exch
returns-in-Exch c = near_outcome c.args.cpu.now c.alone-in-Exch.new.cpu c.args.reader.now c.alone-in-Exch.new.reader c.alone-in-Exch.result c.on-in-Exch.result c.alone-in-Exch.new.why c.on-in-Exch.ensures c.alone-in-Exch.ensures

pub returns-in-Dupl : goal.returns-in-Dupl
returns-in-Dupl c = near_outcome c.args.cpu.now c.alone-in-Dupl.new.cpu c.args.reader.now c.alone-in-Dupl.new.reader c.alone-in-Dupl.result c.on-in-Dupl.result c.alone-in-Dupl.new.why c.on-in-Dupl.ensures c.alone-in-Dupl.ensures

pub returns-in-Indx : goal.returns-in-Indx
returns-in-Indx c = near_outcome c.args.cpu.now c.stays.new.cpu c.args.reader.now c.stays.new.reader c.stays.result c.on-in-Indx.result c.stays.new.why c.on-in-Indx.ensures c.stays.ensures

pub returns-in-Nxlv : goal.returns-in-Nxlv
returns-in-Nxlv c = near_outcome c.args.cpu.now c.stays-in-Nxlv.new.cpu c.args.reader.now c.stays-in-Nxlv.new.reader c.stays-in-Nxlv.result c.on-in-Nxlv.result c.stays-in-Nxlv.new.why c.on-in-Nxlv.ensures c.stays-in-Nxlv.ensures

pub returns-in-Mkst : goal.returns-in-Mkst
returns-in-Mkst c = near_outcome c.args.cpu.now c.stays-in-Mkst.new.cpu c.args.reader.now c.stays-in-Mkst.new.reader c.stays-in-Mkst.result c.on-in-Mkst.result c.stays-in-Mkst.new.why c.on-in-Mkst.ensures c.stays-in-Mkst.ensures

pub returns-in-Stff : goal.returns-in-Stff
returns-in-Stff c = near_outcome c.args.cpu.now c.stays-in-Stff.new.cpu c.args.reader.now c.stays-in-Stff.new.reader c.stays-in-Stff.result c.on-in-Stff.result c.stays-in-Stff.new.why c.on-in-Stff.ensures c.stays-in-Stff.ensures

pub returns-in-Exit : goal.returns-in-Exit
returns-in-Exit c =
    left_made c.args.cpu.now c.exits.new.cpu c.args.reader.now codes.Exit c.exits.result c.requires.stands
    (form_is c.near_of.result nears.Exit c.first.result (c.args.reader.now.bits % 2 ^ 8) (Alone codes.Exit) c.near_of.ensures.form c.first.ensures c.in-Exit.is refl) refl c.exits.new.why c.exits.ensures

pub returns-in-Retn : goal.returns-in-Retn
returns-in-Retn c =
    left_made c.args.cpu.now c.exits-in-Retn.new.cpu c.args.reader.now codes.Retn c.exits-in-Retn.result c.requires.stands
    (form_is c.near_of.result nears.Retn c.first.result (c.args.reader.now.bits % 2 ^ 8) (Alone codes.Retn) c.near_of.ensures.form c.first.ensures c.in-Retn.is refl) refl c.exits-in-Retn.new.why c.exits-in-Retn.ensures

pub reads_whole-requires-clause-whole : goal.reads_whole-requires-clause-whole
reads_whole-requires-clause-whole c = subst (λ (z : ℕ). BeginsWhole (form_of z)) c.first.ensures (c.near_of.ensures.whole c.in-Other.is)
