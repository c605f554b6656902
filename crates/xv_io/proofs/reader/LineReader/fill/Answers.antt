use Rattle.std.proofs.Common.{◌≤◌, ◌-◌, ◌++◌, length, take, ap, ◌∙◌, arith, Result, Ok, Err}
use Rattle.std.specs.Result.{OnErr}
use Rattle.xv_io.specs.Reader.{Reading}
use Rattle.xv_io.proofs.Places.{reading, part_kept, ahead_grown, reads_keep}
use Rattle.xv_io.specs.declared.reader.TheConstants.{ROOM}
use Rattle.xv_io.proofs.reader.LineReader.fill.Goals as goal

on_err : {T E : Type 0} (r : Result T E) (P : Type 0) → P → OnErr r P
on_err (Ok x) P h = tt
on_err (Err e) P h = h

pub returns-in_err-n-clause-line : goal.returns-in_err-n-clause-line
returns-in_err-n-clause-line g c =
    let r = c.self.inside in
    let v = c.self.invariant in
    let by = c.make_room-by.result in
    let e = c.make_room-by.ensures in
    part_kept r.piece c.make_room-by.new.piece c.read.new.into by r.len _ r.start r.end e.moved e.within v.line (omega (arith, v.behind, v.ahead)) (omega (arith, v.fits, c.self.told)) ∙ ap (λ (w : Reading). w.line) c.self.view_is

pub returns-in_err-n-clause-unchanged : goal.returns-in_err-n-clause-unchanged
returns-in_err-n-clause-unchanged g c =
    let r = c.self.inside in
    let v = c.self.invariant in
    let by = c.make_room-by.result in
    let e = c.make_room-by.ensures in
    let fits : r.len - by ≤ length c.make_room-by.new.piece = omega (arith, v.fits, c.self.told) in
    let line = part_kept r.piece c.make_room-by.new.piece c.read.new.into by r.len (ROOM - (r.len - by)) r.start r.end e.moved e.within v.line (omega (arith, v.behind, v.ahead)) fits in
    let ahead = part_kept r.piece c.make_room-by.new.piece c.read.new.into by r.len (ROOM - (r.len - by)) r.at r.len e.moved (omega (arith, e.within, v.line, v.behind)) v.ahead (omega arith) fits in
    on_err c.from_residual.result _ ((λ i. reading (line i) (ahead i) r.given r.ended) ∙ c.self.view_is)

pub returns-clause-reads : goal.returns-clause-reads
returns-clause-reads g c =
    let r = c.self.inside in
    let v = c.self.invariant in
    let by = c.make_room-by.result in
    let e = c.make_room-by.ensures in
    let told = c.in_ok-n.ensures {u = tt} in
    let read = take c.in_ok-n.n c.read.new.into in
    let fits : r.len - by ≤ length c.make_room-by.new.piece = omega (arith, v.fits, c.self.told) in
    let grown = ahead_grown r.piece c.make_room-by.new.piece c.read.new.into by r.len (ROOM - (r.len - by)) r.at c.in_ok-n.n e.moved (omega (arith, e.within, v.line, v.behind)) v.ahead fits told.bound in
    record { read = read; consumed = told.bytes.0; ahead = grown ∙ ap (λ (w : Reading). w.ahead ++ read) c.self.view_is }

pub returns-clause-bytes : goal.returns-clause-bytes
returns-clause-bytes g c = reads_keep c.args.self.now _ (g.S.Source.left c.args.source.now) (g.S.Source.left c.read.new.self) (returns-clause-reads g c)

pub returns-clause-line : goal.returns-clause-line
returns-clause-line g c =
    let r = c.self.inside in
    let v = c.self.invariant in
    let by = c.make_room-by.result in
    let e = c.make_room-by.ensures in
    part_kept r.piece c.make_room-by.new.piece c.read.new.into by r.len _ r.start r.end e.moved e.within v.line (omega (arith, v.behind, v.ahead)) (omega (arith, v.fits, c.self.told)) ∙ ap (λ (w : Reading). w.line) c.self.view_is
