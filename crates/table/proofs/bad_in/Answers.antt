-- Block by block: of the fields that a section's numbers stand for, the tests say what they say of the numbers. Assumes nothing.
use Rattle.std.proofs.Common.{◌∙◌, ap, refl}
use borrow.Author.Rules.{rules}
use Rattle.ranges.specs.Tests.{found, first_false}
use Rattle.sheet.specs.Sections.{bad_in}
use Rattle.sheet.proofs.Sections.{judged_in}
use Rattle.mov.proofs.Codec.{mov_codec}
use Rattle.eng.proofs.Codec.{eng_codec}
use Rattle.pwr.proofs.Codec.{pwr_codec}
use Rattle.eds.proofs.Codec.{eds_codec}
use Rattle.hom.proofs.Codec.{hom_codec}
use Rattle.brk.proofs.Codec.{brk_codec}
use Rattle.pid.proofs.Codec.{pid_codec}
use Rattle.ctl.proofs.Codec.{ctl_codec}
use Rattle.joy.proofs.Codec.{joy_codec}
use Rattle.table.proofs.bad_in.Goals as goal

pub returns-in-1 : goal.returns-in-1
returns-in-1 c = rw c.in-1.is (c.bad_of.ensures ∙ ap found (judged_in mov_codec _ c.shared_slice_known-1.given _ _ refl refl))

pub returns-in-2 : goal.returns-in-2
returns-in-2 c = rw c.in-2.is (c.bad_of-in-2.ensures ∙ ap found (judged_in eng_codec _ c.shared_slice_known-1.given _ _ refl refl))

pub returns-in-3 : goal.returns-in-3
returns-in-3 c = rw c.in-3.is (c.bad_of-in-3.ensures ∙ ap found (judged_in pwr_codec _ c.shared_slice_known-1.given _ _ refl refl))

pub returns-in-4 : goal.returns-in-4
returns-in-4 c = rw c.in-4.is (c.bad_of-in-4.ensures ∙ ap found (judged_in eds_codec _ c.shared_slice_known-1.given _ _ refl refl))

pub returns-in-5 : goal.returns-in-5
returns-in-5 c = rw c.in-5.is (c.bad_of-in-5.ensures ∙ ap found (judged_in hom_codec _ c.shared_slice_known-1.given _ _ refl refl))

pub returns-in-6 : goal.returns-in-6
returns-in-6 c = rw c.in-6.is (c.bad_of-in-6.ensures ∙ ap found (judged_in brk_codec _ c.shared_slice_known-1.given _ _ refl refl))

pub returns-in-7 : goal.returns-in-7
returns-in-7 c = rw c.in-7.is (c.bad_of-in-7.ensures ∙ ap found (judged_in pid_codec _ c.shared_slice_known-1.given _ _ refl refl))

pub returns-in-11 : goal.returns-in-11
returns-in-11 c = rw c.in-11.is (c.bad_of-in-11.ensures ∙ ap found (judged_in ctl_codec _ c.shared_slice_known-1.given _ _ refl refl))

pub returns-in-12 : goal.returns-in-12
returns-in-12 c = rw c.in-12.is (c.bad_of-in-12.ensures ∙ ap found (judged_in joy_codec _ c.shared_slice_known-1.given _ _ refl refl))

pub returns-in_default : goal.returns-in_default
unfolding first_false bad_in
returns-in_default c = search rules
