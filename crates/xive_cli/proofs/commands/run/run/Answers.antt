use Rattle.std.proofs.Common.{sym, ◌∙◌}
use Rattle.xv_base.specs.declared.status.Status.TheVariants.{Done, Refused, ReadFault, WriteFault, NoMemory, TooLong}
use Rattle.xive_cli.specs.Input.{unread}
use Rattle.xive_cli.specs.Output.{told}
use Rattle.xive_cli.proofs.Closing.{IsNew, account_written}
use Rattle.xive_cli.proofs.Ended.{leaves, leaves_at, complete, moved}
use Rattle.xive_cli.proofs.commands.run.run.Goals as goal

pub returns-in-Ok-clause-done : goal.returns-in-Ok-clause-done
returns-in-Ok-clause-done g c = λ is.
    let a = unread c.new-input.result in
    let v = unread c.run_script.new.input in
    let t = told c.new-output.result in
    let t1 = told c.run_script.new.output in
    let n : IsNew a t = record { parser = c.new-input.ensures.parser; ahead = c.new-input.ensures.ahead; given = c.new-input.ensures.given; gathered = c.new-output.ensures.gathered } in
    let l = moved g.S.Source.left g.S.Source.faults g.K.Sink.held g.K.Sink.faults Done
    c.new-input.result.source.now c.args.source.now c.run_script.new.input.source.now c.source-1.given.0 c.new-output.result.sink.now c.args.sink.now c.run_script.new.output.sink.now c.sink-1.given.0
    c.new-input.ensures.now (c.source-1.given.1 (sym (c.run_script.ensures.source ∙ c.new-input.ensures.same))) c.new-output.ensures.now (c.sink-1.given.1 (sym (c.run_script.ensures.sink ∙ c.new-output.ensures.same)))
    (account_written a v t t1 n c.run_script.new.input.ended (c.in-Ok.ensures {u = tt}).done) in
    l

pub returns-in-Ok-clause-complete : goal.returns-in-Ok-clause-complete
returns-in-Ok-clause-complete g c =
    let a = unread c.new-input.result in
    let v = unread c.run_script.new.input in
    let t = told c.new-output.result in
    let t1 = told c.run_script.new.output in
    let n : IsNew a t = record { parser = c.new-input.ensures.parser; ahead = c.new-input.ensures.ahead; given = c.new-input.ensures.given; gathered = c.new-output.ensures.gathered } in
    let l = moved g.S.Source.left g.S.Source.faults g.K.Sink.held g.K.Sink.faults Done
    c.new-input.result.source.now c.args.source.now c.run_script.new.input.source.now c.source-1.given.0 c.new-output.result.sink.now c.args.sink.now c.run_script.new.output.sink.now c.sink-1.given.0
    c.new-input.ensures.now (c.source-1.given.1 (sym (c.run_script.ensures.source ∙ c.new-input.ensures.same))) c.new-output.ensures.now (c.sink-1.given.1 (sym (c.run_script.ensures.sink ∙ c.new-output.ensures.same)))
    (account_written a v t t1 n c.run_script.new.input.ended (c.in-Ok.ensures {u = tt}).done) in
    complete Done (g.S.Source.left c.args.source.now) (g.S.Source.left c.source-1.given.0) (g.S.Source.faults c.args.source.now) (g.S.Source.faults c.source-1.given.0)
    (g.K.Sink.held c.args.sink.now) (g.K.Sink.held c.sink-1.given.0) (g.K.Sink.faults c.args.sink.now) (g.K.Sink.faults c.sink-1.given.0) l

pub returns-in-Err-clause-refused : goal.returns-in-Err-clause-refused
returns-in-Err-clause-refused g c = λ is.
    let a = unread c.new-input.result in
    let v = unread c.run_script.new.input in
    let t = told c.new-output.result in
    let t1 = told c.run_script.new.output in
    let n : IsNew a t = record { parser = c.new-input.ensures.parser; ahead = c.new-input.ensures.ahead; given = c.new-input.ensures.given; gathered = c.new-output.ensures.gathered } in
    let answer = c.give_up.result in
    let l = moved g.S.Source.left g.S.Source.faults g.K.Sink.held g.K.Sink.faults answer
    c.new-input.result.source.now c.args.source.now c.run_script.new.input.source.now c.source-1.given.0 c.new-output.result.sink.now c.args.sink.now c.give_up.new.output.sink.now c.sink-in-Err-1.given.0
    c.new-input.ensures.now (c.source-1.given.1 (sym (c.run_script.ensures.source ∙ c.new-input.ensures.same))) c.new-output.ensures.now (c.sink-in-Err-1.given.1 (sym (c.give_up.ensures.sink ∙ c.run_script.ensures.sink ∙ c.new-output.ensures.same)))
    (leaves c.in-Err.stop answer a v t t1 (told c.give_up.new.output) n c.run_script.new.input.ended c.run_script.ensures.sink_count c.give_up.ensures.count (c.in-Err.ensures {u = tt}).stop c.give_up.ensures.ends c.give_up.ensures.all) in
    leaves_at answer Refused _ _ _ _ _ _ _ _ l is

pub returns-in-Err-clause-too_long : goal.returns-in-Err-clause-too_long
returns-in-Err-clause-too_long g c = λ is.
    let a = unread c.new-input.result in
    let v = unread c.run_script.new.input in
    let t = told c.new-output.result in
    let t1 = told c.run_script.new.output in
    let n : IsNew a t = record { parser = c.new-input.ensures.parser; ahead = c.new-input.ensures.ahead; given = c.new-input.ensures.given; gathered = c.new-output.ensures.gathered } in
    let answer = c.give_up.result in
    let l = moved g.S.Source.left g.S.Source.faults g.K.Sink.held g.K.Sink.faults answer
    c.new-input.result.source.now c.args.source.now c.run_script.new.input.source.now c.source-1.given.0 c.new-output.result.sink.now c.args.sink.now c.give_up.new.output.sink.now c.sink-in-Err-1.given.0
    c.new-input.ensures.now (c.source-1.given.1 (sym (c.run_script.ensures.source ∙ c.new-input.ensures.same))) c.new-output.ensures.now (c.sink-in-Err-1.given.1 (sym (c.give_up.ensures.sink ∙ c.run_script.ensures.sink ∙ c.new-output.ensures.same)))
    (leaves c.in-Err.stop answer a v t t1 (told c.give_up.new.output) n c.run_script.new.input.ended c.run_script.ensures.sink_count c.give_up.ensures.count (c.in-Err.ensures {u = tt}).stop c.give_up.ensures.ends c.give_up.ensures.all) in
    leaves_at answer TooLong _ _ _ _ _ _ _ _ l is

pub returns-in-Err-clause-read_fault : goal.returns-in-Err-clause-read_fault
returns-in-Err-clause-read_fault g c = λ is.
    let a = unread c.new-input.result in
    let v = unread c.run_script.new.input in
    let t = told c.new-output.result in
    let t1 = told c.run_script.new.output in
    let n : IsNew a t = record { parser = c.new-input.ensures.parser; ahead = c.new-input.ensures.ahead; given = c.new-input.ensures.given; gathered = c.new-output.ensures.gathered } in
    let answer = c.give_up.result in
    let l = moved g.S.Source.left g.S.Source.faults g.K.Sink.held g.K.Sink.faults answer
    c.new-input.result.source.now c.args.source.now c.run_script.new.input.source.now c.source-1.given.0 c.new-output.result.sink.now c.args.sink.now c.give_up.new.output.sink.now c.sink-in-Err-1.given.0
    c.new-input.ensures.now (c.source-1.given.1 (sym (c.run_script.ensures.source ∙ c.new-input.ensures.same))) c.new-output.ensures.now (c.sink-in-Err-1.given.1 (sym (c.give_up.ensures.sink ∙ c.run_script.ensures.sink ∙ c.new-output.ensures.same)))
    (leaves c.in-Err.stop answer a v t t1 (told c.give_up.new.output) n c.run_script.new.input.ended c.run_script.ensures.sink_count c.give_up.ensures.count (c.in-Err.ensures {u = tt}).stop c.give_up.ensures.ends c.give_up.ensures.all) in
    leaves_at answer ReadFault _ _ _ _ _ _ _ _ l is

pub returns-in-Err-clause-write_fault : goal.returns-in-Err-clause-write_fault
returns-in-Err-clause-write_fault g c = λ is.
    let a = unread c.new-input.result in
    let v = unread c.run_script.new.input in
    let t = told c.new-output.result in
    let t1 = told c.run_script.new.output in
    let n : IsNew a t = record { parser = c.new-input.ensures.parser; ahead = c.new-input.ensures.ahead; given = c.new-input.ensures.given; gathered = c.new-output.ensures.gathered } in
    let answer = c.give_up.result in
    let l = moved g.S.Source.left g.S.Source.faults g.K.Sink.held g.K.Sink.faults answer
    c.new-input.result.source.now c.args.source.now c.run_script.new.input.source.now c.source-1.given.0 c.new-output.result.sink.now c.args.sink.now c.give_up.new.output.sink.now c.sink-in-Err-1.given.0
    c.new-input.ensures.now (c.source-1.given.1 (sym (c.run_script.ensures.source ∙ c.new-input.ensures.same))) c.new-output.ensures.now (c.sink-in-Err-1.given.1 (sym (c.give_up.ensures.sink ∙ c.run_script.ensures.sink ∙ c.new-output.ensures.same)))
    (leaves c.in-Err.stop answer a v t t1 (told c.give_up.new.output) n c.run_script.new.input.ended c.run_script.ensures.sink_count c.give_up.ensures.count (c.in-Err.ensures {u = tt}).stop c.give_up.ensures.ends c.give_up.ensures.all) in
    leaves_at answer WriteFault _ _ _ _ _ _ _ _ l is

pub returns-in-Err-clause-no_memory : goal.returns-in-Err-clause-no_memory
returns-in-Err-clause-no_memory g c = λ is.
    let a = unread c.new-input.result in
    let v = unread c.run_script.new.input in
    let t = told c.new-output.result in
    let t1 = told c.run_script.new.output in
    let n : IsNew a t = record { parser = c.new-input.ensures.parser; ahead = c.new-input.ensures.ahead; given = c.new-input.ensures.given; gathered = c.new-output.ensures.gathered } in
    let answer = c.give_up.result in
    let l = moved g.S.Source.left g.S.Source.faults g.K.Sink.held g.K.Sink.faults answer
    c.new-input.result.source.now c.args.source.now c.run_script.new.input.source.now c.source-1.given.0 c.new-output.result.sink.now c.args.sink.now c.give_up.new.output.sink.now c.sink-in-Err-1.given.0
    c.new-input.ensures.now (c.source-1.given.1 (sym (c.run_script.ensures.source ∙ c.new-input.ensures.same))) c.new-output.ensures.now (c.sink-in-Err-1.given.1 (sym (c.give_up.ensures.sink ∙ c.run_script.ensures.sink ∙ c.new-output.ensures.same)))
    (leaves c.in-Err.stop answer a v t t1 (told c.give_up.new.output) n c.run_script.new.input.ended c.run_script.ensures.sink_count c.give_up.ensures.count (c.in-Err.ensures {u = tt}).stop c.give_up.ensures.ends c.give_up.ensures.all) in
    leaves_at answer NoMemory _ _ _ _ _ _ _ _ l is

pub returns-in-Err-clause-complete : goal.returns-in-Err-clause-complete
returns-in-Err-clause-complete g c =
    let a = unread c.new-input.result in
    let v = unread c.run_script.new.input in
    let t = told c.new-output.result in
    let t1 = told c.run_script.new.output in
    let n : IsNew a t = record { parser = c.new-input.ensures.parser; ahead = c.new-input.ensures.ahead; given = c.new-input.ensures.given; gathered = c.new-output.ensures.gathered } in
    let answer = c.give_up.result in
    let l = moved g.S.Source.left g.S.Source.faults g.K.Sink.held g.K.Sink.faults answer
    c.new-input.result.source.now c.args.source.now c.run_script.new.input.source.now c.source-1.given.0 c.new-output.result.sink.now c.args.sink.now c.give_up.new.output.sink.now c.sink-in-Err-1.given.0
    c.new-input.ensures.now (c.source-1.given.1 (sym (c.run_script.ensures.source ∙ c.new-input.ensures.same))) c.new-output.ensures.now (c.sink-in-Err-1.given.1 (sym (c.give_up.ensures.sink ∙ c.run_script.ensures.sink ∙ c.new-output.ensures.same)))
    (leaves c.in-Err.stop answer a v t t1 (told c.give_up.new.output) n c.run_script.new.input.ended c.run_script.ensures.sink_count c.give_up.ensures.count (c.in-Err.ensures {u = tt}).stop c.give_up.ensures.ends c.give_up.ensures.all) in
    complete answer _ _ _ _ _ _ _ _ l
