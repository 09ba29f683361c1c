-- The record of a turn, by `passes`; what is printed only grows. Assumes nothing.
use Rattle.std.proofs.Common.{arith, rules}
use Rattle.streams.proofs.Growth.{grows_not, grows_trans}
use Rattle.bench.proofs.Traces.{none_run, all_run, records_none, stops, head_fits, piece_fits, passes}
use Rattle.bench.proofs.run.Goals as goal

pub loop-rest-init : goal.loop-rest-init
loop-rest-init g c = (none_run _ c.fresh.ensures, grows_not _)

pub returns-in_err-say_bad-clause-out : goal.returns-in_err-say_bad-clause-out
returns-in_err-say_bad-clause-out g c = grows_trans c.loop-rest.invariant.1 c.say_bad.ensures

pub returns-in_default-clause-ok : goal.returns-in_default-clause-ok
returns-in_default-clause-ok g c =
    all_run c.loop-rest.invariant.0
    (stops c.args.bytes.now c.loop-rest.rest.now c.loop-rest.invariant.0 c.read_record.ensures c.in_default.not-Ok)

pub returns-in_default-clause-out : goal.returns-in_default-clause-out
returns-in_default-clause-out g c = grows_trans c.loop-rest.invariant.1 c.say_bad.ensures

pub slice_bounds-split_at-count : goal.slice_bounds-split_at-count
slice_bounds-split_at-count g c = head_fits c.args.bytes.now c.loop-rest.rest.now c.loop-rest.invariant.0 c.read_record.ensures c.in-Ok.is

pub slice_bounds-split_at-start : goal.slice_bounds-split_at-start
slice_bounds-split_at-start g c = head_fits c.args.bytes.now c.loop-rest.rest.now c.loop-rest.invariant.0 c.read_record.ensures c.in-Ok.is

pub split_at-requires : goal.split_at-requires
split_at-requires g c = piece_fits c.args.bytes.now c.loop-rest.rest.now c.loop-rest.invariant.0 c.read_record.ensures c.in-Ok.is

pub offer-requires : goal.offer-requires
offer-requires g c =
    let l = c.loop-rest.invariant.0 in
    let t = passes c.args.bytes.now c.loop-rest.rest.now l c.read_record.ensures c.in-Ok.is c.split_at.ensures.front c.split_at.ensures.back in
    (l.leads.sound, l.leads.form, t.few)

pub returns-in_err-offered-clause-out : goal.returns-in_err-offered-clause-out
returns-in_err-offered-clause-out g c = grows_trans c.loop-rest.invariant.1 c.offer.ensures.out

pub overflow_add-ran : goal.overflow_add-ran
overflow_add-ran g c =
    let l = c.loop-rest.invariant.0 in
    let t = passes c.args.bytes.now c.loop-rest.rest.now l c.read_record.ensures c.in-Ok.is c.split_at.ensures.front c.split_at.ensures.back in
    omega (arith, t.room, c.in_ok-offered.ensures.ok.1)

pub loop-rest-preserved : goal.loop-rest-preserved
loop-rest-preserved g c =
    let l = c.loop-rest.invariant.0 in
    let t = passes c.args.bytes.now c.loop-rest.rest.now l c.read_record.ensures c.in-Ok.is c.split_at.ensures.front c.split_at.ensures.back in
    (t.left c.in_ok-offered.ensures.ok.0 c.in_ok-offered.ensures.ok.1, grows_trans c.loop-rest.invariant.1 c.in_ok-offered.ensures.out)

pub returns-clause-ok : goal.returns-clause-ok
returns-clause-ok g c = all_run c.loop-rest.invariant.0 (records_none _ (search rules))
