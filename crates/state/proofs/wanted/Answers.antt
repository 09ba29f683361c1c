-- 01's words on unfinished bytes, test by test. Assumes nothing.
use Rattle.std.proofs.Common.{◌≡◌, sym, ap, ◌∙◌}
use Rattle.names.specs.Names.{kind_from, kind_at, span}
use Rattle.state.specs.Sound.{wanting}
use Rattle.state.proofs.Held.{wanting_told, wanted_none, wanted_past, wanted_zero, wanted_name, wanted_span}
use Rattle.state.proofs.wanted.Goals as goal
use Rattle.state.proofs.wanted.Goals.{then-n-gt-FRAME-via-then-n-gt-FRAME, then-n-gt-FRAME-via-else-n-gt-FRAME+then-held-eq0}

pub returns-then-n-eq0 : goal.returns-then-n-eq0
returns-then-n-eq0 c = sym (ap wanting (wanted_none _ _ c.told-held c.if-n-eq0.true))

pub returns-then-n-gt-FRAME : goal.returns-then-n-gt-FRAME
returns-then-n-gt-FRAME c =
    elim c.then-n-gt-FRAME.branch [
      | then-n-gt-FRAME-via-then-n-gt-FRAME w ↦ sym (ap wanting (wanted_past _ _ c.told-held w.if-n-gt-FRAME.true))
      | then-n-gt-FRAME-via-else-n-gt-FRAME+then-held-eq0 w ↦
          sym (ap wanting (wanted_zero _ _ c.told-held c.if-n-eq0.false w.if-n-gt-FRAME.false w.if-held-eq0.true))
    ]

pub returns-then-n-lt4 : goal.returns-then-n-lt4
returns-then-n-lt4 c = sym (ap wanting (wanted_name _ _ c.told-held c.if-n-eq0.false c.if-n-gt-FRAME.false c.if-held-eq0.false c.if-n-lt4.true))

pub returns : goal.returns
returns c =
    let is : c.span-span.result ≡ span (kind_at c.args.held.now) = c.span-span.ensures ∙ ap span (c.of-kind.ensures ∙ ap (kind_from _) c.read.ensures) in
    c.then_some.ensures ∙ wanting_told _ _
    ∙ sym (ap wanting (wanted_span _ _ c.told-held c.if-n-eq0.false c.if-n-gt-FRAME.false c.if-held-eq0.false c.if-n-lt4.false _ is))
