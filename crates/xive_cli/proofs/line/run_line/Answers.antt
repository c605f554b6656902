use Rattle.std.proofs.Common.{◌≡◌, ◌<◌, [], ◌∷◌, None, Some, true, refl, sym, ◌∙◌, subst, arith}
use Rattle.xv_model.specs.declared.board.Board.{Board}
use Rattle.xv_model.specs.board.Validity.{valid}
use Rattle.board_script.specs.Script.{WorkLine}
use Rattle.board_script.specs.Work.{HasValidSteps}
use Rattle.board_script.proofs.WorkLines.{asks_below}
use Rattle.xive_cli.specs.Line.{entry_of}
use Rattle.xive_cli.specs.Output.{told}
use Rattle.xive_cli.proofs.Entries.{MakesNext, runs_none, makes_first, entry_ran, entry_failed, load_falls, some_load}
use Rattle.xive_cli.proofs.Telling.{on_err_anyway}
use Rattle.xive_cli.proofs.line.run_line.Goals as goal

pub loop-op-init : goal.loop-op-init
loop-op-init g c =
    let e = c.in_ok-last.ensures {u = tt} in
    let w : WorkLine = record { actor = c.args.actor; work = c.args.work } in
    let m = c.args.machine.now in
    let t = told c.args.output.now in
    let l = c.requires.legal in
    let b = c.begin-first.ensures in
    let o = c.begin-first.result in
    let v = b.valid m.fabric.tables.board c.requires.work.valid_steps in
    let less = load_falls w c.args.work c.begin-first.new.self None m c.make_entry.new.machine o c.in_ok-last.last t t (told c.make_entry.new.output) l.0 l.1 [] (runs_none w m t l.0 l.1 l.2 l.3) (makes_first w o m l.0 l.1 (b.value l.0 l.1 l.2) v c.requires.work) e.tells l.4 (b.falls l.0 l.1 l.2) in
    record {
      runs = λ z before st legal.
          let x = entry_of c.args.actor o c.in_ok-last.last in (
            x ∷ [],
            entry_ran w m c.make_entry.new.machine o c.in_ok-last.last t t (told c.make_entry.new.output) z before [] (runs_none w m t z before st legal) (makes_first w o m z before (b.value z before st) v c.requires.work) e.tells,
            b.after z before x st refl,
            refl,
          );
      steps = b.stays m.fabric.tables.board c.requires.work.valid_steps;
      board = c.make_entry.ensures.board;
      few = omega (arith, less, c.make_entry.ensures.count);
      sink = c.make_entry.ensures.sink;
      sink_count = c.make_entry.ensures.sink_count;
    }

pub begin-first-requires : goal.begin-first-requires
begin-first-requires g c = record { sources = asks_below c.args.machine.now.fabric.tables.board c.args.work c.requires.work.valid_steps }

pub returns-in_err-last-clause-fails : goal.returns-in_err-last-clause-fails
returns-in_err-last-clause-fails g c = on_err_anyway c.from_residual.result (λ z before st legal.
    let w : WorkLine = record { actor = c.args.actor; work = c.args.work } in
    let m = c.args.machine.now in
    let t = told c.args.output.now in
    let b = c.begin-first.ensures in
    let o = c.begin-first.result in
    entry_failed w m c.make_entry.new.machine o t t (told c.make_entry.new.output) z before [] (omega arith) (runs_none w m t z before st legal) (makes_first w o m z before (b.value z before st) (b.valid m.fabric.tables.board c.requires.work.valid_steps) c.requires.work) (c.in_err-last.ensures {u = tt}).fails)

pub make_entry-requires-in-Some-clause-count : goal.make_entry-requires-in-Some-clause-count
make_entry-requires-in-Some-clause-count g c =
    let i = c.loop-op.invariant in
    let n = c.in-Some.ensures {u = tt} in
    let w : WorkLine = record { actor = c.args.actor; work = c.args.work } in
    let l = c.requires.legal in
    let r = i.runs l.0 l.1 l.2 l.3 in
    let next : MakesNext w c.loop-op.machine c.in-Some.op l.0 l.1 r.0 = record {
      next = sym (n.value c.args.work l.0 l.1 r.0 r.2 r.1.stands r.3);
      actor = subst (λ (b : Board). c.args.actor < b.limits.actors) (sym i.board) c.requires.work.actor_is;
      valid_op = subst (λ (b : Board). valid b c.in-Some.op ≡ true) (sym i.board) (n.valid c.args.machine.now.fabric.tables.board i.steps);
    } in
    let falls = n.falls c.args.work l.0 l.1 r.0 r.2 r.1.stands r.3 c.args.machine.now.fabric.tables.board i.steps in
    omega (arith, i.few, c.requires.room, some_load w c.loop-op.going c.next.new.self (Some c.loop-op.last) c.loop-op.machine c.in-Some.op (told c.args.output.now) (told c.loop-op.output) l.0 l.1 r.0 r.1 next l.4 falls)

pub returns-in_err-last-2-clause-fails : goal.returns-in_err-last-2-clause-fails
returns-in_err-last-2-clause-fails g c = on_err_anyway c.from_residual-in_err-last-2.result (λ z before st legal.
    let i = c.loop-op.invariant in
    let n = c.in-Some.ensures {u = tt} in
    let w : WorkLine = record { actor = c.args.actor; work = c.args.work } in
    let r = i.runs z before st legal in
    let next : MakesNext w c.loop-op.machine c.in-Some.op z before r.0 = record {
      next = sym (n.value c.args.work z before r.0 r.2 r.1.stands r.3);
      actor = subst (λ (b : Board). c.args.actor < b.limits.actors) (sym i.board) c.requires.work.actor_is;
      valid_op = subst (λ (b : Board). valid b c.in-Some.op ≡ true) (sym i.board) (n.valid c.args.machine.now.fabric.tables.board i.steps);
    } in
    entry_failed w c.loop-op.machine c.make_entry-in-Some.new.machine c.in-Some.op (told c.args.output.now) (told c.loop-op.output) (told c.make_entry-in-Some.new.output) z before r.0 i.sink_count r.1 next (c.in_err-last-2.ensures {u = tt}).fails)

pub loop-op-smaller : goal.loop-op-smaller
loop-op-smaller g c =
    let i = c.loop-op.invariant in
    let n = c.in-Some.ensures {u = tt} in
    let w : WorkLine = record { actor = c.args.actor; work = c.args.work } in
    let l = c.requires.legal in
    let r = i.runs l.0 l.1 l.2 l.3 in
    let next : MakesNext w c.loop-op.machine c.in-Some.op l.0 l.1 r.0 = record {
      next = sym (n.value c.args.work l.0 l.1 r.0 r.2 r.1.stands r.3);
      actor = subst (λ (b : Board). c.args.actor < b.limits.actors) (sym i.board) c.requires.work.actor_is;
      valid_op = subst (λ (b : Board). valid b c.in-Some.op ≡ true) (sym i.board) (n.valid c.args.machine.now.fabric.tables.board i.steps);
    } in
    let falls = n.falls c.args.work l.0 l.1 r.0 r.2 r.1.stands r.3 c.args.machine.now.fabric.tables.board i.steps in
    load_falls w c.loop-op.going c.next.new.self (Some c.loop-op.last) c.loop-op.machine c.make_entry-in-Some.new.machine c.in-Some.op c.in_ok-last-2.last (told c.args.output.now) (told c.loop-op.output) (told c.make_entry-in-Some.new.output) l.0 l.1 r.0 r.1 next (c.in_ok-last-2.ensures {u = tt}).tells l.4 falls

pub loop-op-preserved : goal.loop-op-preserved
loop-op-preserved g c =
    let i = c.loop-op.invariant in
    let n = c.in-Some.ensures {u = tt} in
    let e = c.in_ok-last-2.ensures {u = tt} in
    let w : WorkLine = record { actor = c.args.actor; work = c.args.work } in
    let actor = subst (λ (b : Board). c.args.actor < b.limits.actors) (sym i.board) c.requires.work.actor_is in
    let valid_op = subst (λ (b : Board). valid b c.in-Some.op ≡ true) (sym i.board) (n.valid c.args.machine.now.fabric.tables.board i.steps) in
    let l = c.requires.legal in
    let r = i.runs l.0 l.1 l.2 l.3 in
    let next : MakesNext w c.loop-op.machine c.in-Some.op l.0 l.1 r.0 = record { next = sym (n.value c.args.work l.0 l.1 r.0 r.2 r.1.stands r.3); actor = actor; valid_op = valid_op } in
    let falls = n.falls c.args.work l.0 l.1 r.0 r.2 r.1.stands r.3 c.args.machine.now.fabric.tables.board i.steps in
    let less = load_falls w c.loop-op.going c.next.new.self (Some c.loop-op.last) c.loop-op.machine c.make_entry-in-Some.new.machine c.in-Some.op c.in_ok-last-2.last (told c.args.output.now) (told c.loop-op.output) (told c.make_entry-in-Some.new.output) l.0 l.1 r.0 r.1 next e.tells l.4 falls in
    record {
      runs = λ z before st legal.
          let s = i.runs z before st legal in
          let x = entry_of c.args.actor c.in-Some.op c.in_ok-last-2.last in
          let next_of : MakesNext w c.loop-op.machine c.in-Some.op z before s.0 = record { next = sym (n.value c.args.work z before s.0 s.2 s.1.stands s.3); actor = actor; valid_op = valid_op } in (
            x ∷ s.0,
            entry_ran w c.loop-op.machine c.make_entry-in-Some.new.machine c.in-Some.op c.in_ok-last-2.last (told c.args.output.now) (told c.loop-op.output) (told c.make_entry-in-Some.new.output) z before s.0 s.1 next_of e.tells,
            n.after c.args.work z before s.0 x s.2 s.1.stands s.3 refl,
            refl,
          );
      steps = c.next.ensures.stays c.args.machine.now.fabric.tables.board i.steps;
      board = c.make_entry-in-Some.ensures.board ∙ i.board;
      few = omega (arith, less, c.make_entry-in-Some.ensures.count, i.few);
      sink = c.make_entry-in-Some.ensures.sink ∙ i.sink;
      sink_count = omega (arith, i.sink_count, c.make_entry-in-Some.ensures.sink_count);
    }

pub next-requires : goal.next-requires
next-requires g c =
    let i = c.loop-op.invariant in
    record { sources = asks_below c.loop-op.machine.fabric.tables.board c.loop-op.going (subst (λ (b : Board). HasValidSteps b c.loop-op.going) (sym i.board) i.steps) }
