use Rattle.std.proofs.Common.{◌++◌, length, sym, subst, arith}
use Rattle.xv_model.specs.account.Start.{start}
use Rattle.xv_model.specs.source.Notices.{all_outstanding}
use Rattle.xv_model.specs.route.Flight.{flight}
use Rattle.account.specs.text.Report.{flight_line, notices_line, done_line}
use Rattle.xive_cli.specs.Output.{Tells, Fails, told}
use Rattle.xive_cli.specs.Report.{TellsOf, FailsOf, first_text, sources_text, queues_text, processors_text, rings_text, last_text}
use Rattle.xive_cli.proofs.Telling.{on_err_anyway}
use Rattle.xive_cli.proofs.Printed.{tells_parts, fails_parts, fails_more_parts, last_parts, on_ok_then, on_err_then}
use Rattle.xive_cli.proofs.report.put_report.Goals as goal

pub returns-in_err-put_end-clause-err : goal.returns-in_err-put_end-clause-err
returns-in_err-put_end-clause-err g c =
    let f1 = (c.in_err-put_end.ensures {u = tt}).err in
    on_err_anyway _ (fails_more_parts c.args.machine.now (λ z h. first_text z h ++ sources_text z h ++ queues_text z h ++ processors_text z h ++ rings_text z h ++ flight_line (length (flight z h)) ++ notices_line (all_outstanding z h)) (λ z h. done_line) (told c.args.output.now) _ (fails_more_parts c.args.machine.now (λ z h. first_text z h ++ sources_text z h ++ queues_text z h ++ processors_text z h ++ rings_text z h ++ flight_line (length (flight z h))) (λ z h. notices_line (all_outstanding z h)) (told c.args.output.now) _ (fails_more_parts c.args.machine.now (λ z h. first_text z h ++ sources_text z h ++ queues_text z h ++ processors_text z h ++ rings_text z h) (λ z h. flight_line (length (flight z h))) (told c.args.output.now) _ (fails_more_parts c.args.machine.now (λ z h. first_text z h ++ sources_text z h ++ queues_text z h ++ processors_text z h) rings_text (told c.args.output.now) _ (fails_more_parts c.args.machine.now (λ z h. first_text z h ++ sources_text z h ++ queues_text z h) processors_text (told c.args.output.now) _ (fails_more_parts c.args.machine.now (λ z h. first_text z h ++ sources_text z h) queues_text (told c.args.output.now) _ (fails_more_parts c.args.machine.now first_text sources_text (told c.args.output.now) _ (f1))))))))

pub returns-in_err-put_sources-clause-err : goal.returns-in_err-put_sources-clause-err
returns-in_err-put_sources-clause-err g c =
    let t1 : TellsOf c.args.machine.now first_text (told c.args.output.now) (told c.put_end.new.output) = (c.in_ok-put_end.ensures {u = tt}).ok in
    let f2 = fails_parts c.args.machine.now first_text sources_text (told c.args.output.now) (told c.put_end.new.output) _ (omega (arith, c.put_end.ensures.count)) t1 (c.in_err-put_sources.ensures {u = tt}).err in
    on_err_anyway _ (fails_more_parts c.args.machine.now (λ z h. first_text z h ++ sources_text z h ++ queues_text z h ++ processors_text z h ++ rings_text z h ++ flight_line (length (flight z h)) ++ notices_line (all_outstanding z h)) (λ z h. done_line) (told c.args.output.now) _ (fails_more_parts c.args.machine.now (λ z h. first_text z h ++ sources_text z h ++ queues_text z h ++ processors_text z h ++ rings_text z h ++ flight_line (length (flight z h))) (λ z h. notices_line (all_outstanding z h)) (told c.args.output.now) _ (fails_more_parts c.args.machine.now (λ z h. first_text z h ++ sources_text z h ++ queues_text z h ++ processors_text z h ++ rings_text z h) (λ z h. flight_line (length (flight z h))) (told c.args.output.now) _ (fails_more_parts c.args.machine.now (λ z h. first_text z h ++ sources_text z h ++ queues_text z h ++ processors_text z h) rings_text (told c.args.output.now) _ (fails_more_parts c.args.machine.now (λ z h. first_text z h ++ sources_text z h ++ queues_text z h) processors_text (told c.args.output.now) _ (fails_more_parts c.args.machine.now (λ z h. first_text z h ++ sources_text z h) queues_text (told c.args.output.now) _ (f2)))))))

pub returns-in_err-put_queues-clause-err : goal.returns-in_err-put_queues-clause-err
returns-in_err-put_queues-clause-err g c =
    let t1 : TellsOf c.args.machine.now first_text (told c.args.output.now) (told c.put_end.new.output) = (c.in_ok-put_end.ensures {u = tt}).ok in
    let t2 : TellsOf c.args.machine.now (λ z h. first_text z h ++ sources_text z h) (told c.args.output.now) (told c.put_sources.new.output) = tells_parts c.args.machine.now first_text sources_text (told c.args.output.now) (told c.put_end.new.output) (told c.put_sources.new.output) t1 (c.in_ok-put_sources.ensures {u = tt}).ok in
    let f3 = fails_parts c.args.machine.now (λ z h. first_text z h ++ sources_text z h) queues_text (told c.args.output.now) (told c.put_sources.new.output) _ (omega (arith, c.put_end.ensures.count, c.put_sources.ensures.count)) t2 (c.in_err-put_queues.ensures {u = tt}).err in
    on_err_anyway _ (fails_more_parts c.args.machine.now (λ z h. first_text z h ++ sources_text z h ++ queues_text z h ++ processors_text z h ++ rings_text z h ++ flight_line (length (flight z h)) ++ notices_line (all_outstanding z h)) (λ z h. done_line) (told c.args.output.now) _ (fails_more_parts c.args.machine.now (λ z h. first_text z h ++ sources_text z h ++ queues_text z h ++ processors_text z h ++ rings_text z h ++ flight_line (length (flight z h))) (λ z h. notices_line (all_outstanding z h)) (told c.args.output.now) _ (fails_more_parts c.args.machine.now (λ z h. first_text z h ++ sources_text z h ++ queues_text z h ++ processors_text z h ++ rings_text z h) (λ z h. flight_line (length (flight z h))) (told c.args.output.now) _ (fails_more_parts c.args.machine.now (λ z h. first_text z h ++ sources_text z h ++ queues_text z h ++ processors_text z h) rings_text (told c.args.output.now) _ (fails_more_parts c.args.machine.now (λ z h. first_text z h ++ sources_text z h ++ queues_text z h) processors_text (told c.args.output.now) _ (f3))))))

pub returns-in_err-put_processors-clause-err : goal.returns-in_err-put_processors-clause-err
returns-in_err-put_processors-clause-err g c =
    let t1 : TellsOf c.args.machine.now first_text (told c.args.output.now) (told c.put_end.new.output) = (c.in_ok-put_end.ensures {u = tt}).ok in
    let t2 : TellsOf c.args.machine.now (λ z h. first_text z h ++ sources_text z h) (told c.args.output.now) (told c.put_sources.new.output) = tells_parts c.args.machine.now first_text sources_text (told c.args.output.now) (told c.put_end.new.output) (told c.put_sources.new.output) t1 (c.in_ok-put_sources.ensures {u = tt}).ok in
    let t3 : TellsOf c.args.machine.now (λ z h. first_text z h ++ sources_text z h ++ queues_text z h) (told c.args.output.now) (told c.put_queues.new.output) = tells_parts c.args.machine.now (λ z h. first_text z h ++ sources_text z h) queues_text (told c.args.output.now) (told c.put_sources.new.output) (told c.put_queues.new.output) t2 (c.in_ok-put_queues.ensures {u = tt}).ok in
    let f4 = fails_parts c.args.machine.now (λ z h. first_text z h ++ sources_text z h ++ queues_text z h) processors_text (told c.args.output.now) (told c.put_queues.new.output) _ (omega (arith, c.put_end.ensures.count, c.put_sources.ensures.count, c.put_queues.ensures.count)) t3 (c.in_err-put_processors.ensures {u = tt}).err in
    on_err_anyway _ (fails_more_parts c.args.machine.now (λ z h. first_text z h ++ sources_text z h ++ queues_text z h ++ processors_text z h ++ rings_text z h ++ flight_line (length (flight z h)) ++ notices_line (all_outstanding z h)) (λ z h. done_line) (told c.args.output.now) _ (fails_more_parts c.args.machine.now (λ z h. first_text z h ++ sources_text z h ++ queues_text z h ++ processors_text z h ++ rings_text z h ++ flight_line (length (flight z h))) (λ z h. notices_line (all_outstanding z h)) (told c.args.output.now) _ (fails_more_parts c.args.machine.now (λ z h. first_text z h ++ sources_text z h ++ queues_text z h ++ processors_text z h ++ rings_text z h) (λ z h. flight_line (length (flight z h))) (told c.args.output.now) _ (fails_more_parts c.args.machine.now (λ z h. first_text z h ++ sources_text z h ++ queues_text z h ++ processors_text z h) rings_text (told c.args.output.now) _ (f4)))))

pub returns-in_err-put_rings-clause-err : goal.returns-in_err-put_rings-clause-err
returns-in_err-put_rings-clause-err g c =
    let t1 : TellsOf c.args.machine.now first_text (told c.args.output.now) (told c.put_end.new.output) = (c.in_ok-put_end.ensures {u = tt}).ok in
    let t2 : TellsOf c.args.machine.now (λ z h. first_text z h ++ sources_text z h) (told c.args.output.now) (told c.put_sources.new.output) = tells_parts c.args.machine.now first_text sources_text (told c.args.output.now) (told c.put_end.new.output) (told c.put_sources.new.output) t1 (c.in_ok-put_sources.ensures {u = tt}).ok in
    let t3 : TellsOf c.args.machine.now (λ z h. first_text z h ++ sources_text z h ++ queues_text z h) (told c.args.output.now) (told c.put_queues.new.output) = tells_parts c.args.machine.now (λ z h. first_text z h ++ sources_text z h) queues_text (told c.args.output.now) (told c.put_sources.new.output) (told c.put_queues.new.output) t2 (c.in_ok-put_queues.ensures {u = tt}).ok in
    let t4 : TellsOf c.args.machine.now (λ z h. first_text z h ++ sources_text z h ++ queues_text z h ++ processors_text z h) (told c.args.output.now) (told c.put_processors.new.output) = tells_parts c.args.machine.now (λ z h. first_text z h ++ sources_text z h ++ queues_text z h) processors_text (told c.args.output.now) (told c.put_queues.new.output) (told c.put_processors.new.output) t3 (c.in_ok-put_processors.ensures {u = tt}).ok in
    let f5 = fails_parts c.args.machine.now (λ z h. first_text z h ++ sources_text z h ++ queues_text z h ++ processors_text z h) rings_text (told c.args.output.now) (told c.put_processors.new.output) _ (omega (arith, c.put_end.ensures.count, c.put_sources.ensures.count, c.put_queues.ensures.count, c.put_processors.ensures.count)) t4 (c.in_err-put_rings.ensures {u = tt}).err in
    on_err_anyway _ (fails_more_parts c.args.machine.now (λ z h. first_text z h ++ sources_text z h ++ queues_text z h ++ processors_text z h ++ rings_text z h ++ flight_line (length (flight z h)) ++ notices_line (all_outstanding z h)) (λ z h. done_line) (told c.args.output.now) _ (fails_more_parts c.args.machine.now (λ z h. first_text z h ++ sources_text z h ++ queues_text z h ++ processors_text z h ++ rings_text z h ++ flight_line (length (flight z h))) (λ z h. notices_line (all_outstanding z h)) (told c.args.output.now) _ (fails_more_parts c.args.machine.now (λ z h. first_text z h ++ sources_text z h ++ queues_text z h ++ processors_text z h ++ rings_text z h) (λ z h. flight_line (length (flight z h))) (told c.args.output.now) _ (f5))))

pub returns-clause-ok : goal.returns-clause-ok
returns-clause-ok g c =
    let t1 : TellsOf c.args.machine.now first_text (told c.args.output.now) (told c.put_end.new.output) = (c.in_ok-put_end.ensures {u = tt}).ok in
    let t2 : TellsOf c.args.machine.now (λ z h. first_text z h ++ sources_text z h) (told c.args.output.now) (told c.put_sources.new.output) = tells_parts c.args.machine.now first_text sources_text (told c.args.output.now) (told c.put_end.new.output) (told c.put_sources.new.output) t1 (c.in_ok-put_sources.ensures {u = tt}).ok in
    let t3 : TellsOf c.args.machine.now (λ z h. first_text z h ++ sources_text z h ++ queues_text z h) (told c.args.output.now) (told c.put_queues.new.output) = tells_parts c.args.machine.now (λ z h. first_text z h ++ sources_text z h) queues_text (told c.args.output.now) (told c.put_sources.new.output) (told c.put_queues.new.output) t2 (c.in_ok-put_queues.ensures {u = tt}).ok in
    let t4 : TellsOf c.args.machine.now (λ z h. first_text z h ++ sources_text z h ++ queues_text z h ++ processors_text z h) (told c.args.output.now) (told c.put_processors.new.output) = tells_parts c.args.machine.now (λ z h. first_text z h ++ sources_text z h ++ queues_text z h) processors_text (told c.args.output.now) (told c.put_queues.new.output) (told c.put_processors.new.output) t3 (c.in_ok-put_processors.ensures {u = tt}).ok in
    let t5 : TellsOf c.args.machine.now (λ z h. first_text z h ++ sources_text z h ++ queues_text z h ++ processors_text z h ++ rings_text z h) (told c.args.output.now) (told c.put_rings.new.output) = tells_parts c.args.machine.now (λ z h. first_text z h ++ sources_text z h ++ queues_text z h ++ processors_text z h) rings_text (told c.args.output.now) (told c.put_processors.new.output) (told c.put_rings.new.output) t4 (c.in_ok-put_rings.ensures {u = tt}).ok in
    on_ok_then c.put_last.result (λ (p : TellsOf c.args.machine.now last_text (told c.put_rings.new.output) (told c.put_last.new.output)) h st.
    let z = start c.args.machine.now.fabric.tables.board in
    subst (λ t. Tells (told c.args.output.now) t (told c.put_last.new.output))
    (sym (last_parts (first_text z h ++ sources_text z h ++ queues_text z h ++ processors_text z h ++ rings_text z h) (flight_line (length (flight z h))) (notices_line (all_outstanding z h)) done_line))
    (tells_parts c.args.machine.now (λ z h. first_text z h ++ sources_text z h ++ queues_text z h ++ processors_text z h ++ rings_text z h) last_text (told c.args.output.now) (told c.put_rings.new.output) (told c.put_last.new.output) t5 p h st)) c.put_last.ensures.ok

pub returns-clause-err : goal.returns-clause-err
returns-clause-err g c =
    let t1 : TellsOf c.args.machine.now first_text (told c.args.output.now) (told c.put_end.new.output) = (c.in_ok-put_end.ensures {u = tt}).ok in
    let t2 : TellsOf c.args.machine.now (λ z h. first_text z h ++ sources_text z h) (told c.args.output.now) (told c.put_sources.new.output) = tells_parts c.args.machine.now first_text sources_text (told c.args.output.now) (told c.put_end.new.output) (told c.put_sources.new.output) t1 (c.in_ok-put_sources.ensures {u = tt}).ok in
    let t3 : TellsOf c.args.machine.now (λ z h. first_text z h ++ sources_text z h ++ queues_text z h) (told c.args.output.now) (told c.put_queues.new.output) = tells_parts c.args.machine.now (λ z h. first_text z h ++ sources_text z h) queues_text (told c.args.output.now) (told c.put_sources.new.output) (told c.put_queues.new.output) t2 (c.in_ok-put_queues.ensures {u = tt}).ok in
    let t4 : TellsOf c.args.machine.now (λ z h. first_text z h ++ sources_text z h ++ queues_text z h ++ processors_text z h) (told c.args.output.now) (told c.put_processors.new.output) = tells_parts c.args.machine.now (λ z h. first_text z h ++ sources_text z h ++ queues_text z h) processors_text (told c.args.output.now) (told c.put_queues.new.output) (told c.put_processors.new.output) t3 (c.in_ok-put_processors.ensures {u = tt}).ok in
    let t5 : TellsOf c.args.machine.now (λ z h. first_text z h ++ sources_text z h ++ queues_text z h ++ processors_text z h ++ rings_text z h) (told c.args.output.now) (told c.put_rings.new.output) = tells_parts c.args.machine.now (λ z h. first_text z h ++ sources_text z h ++ queues_text z h ++ processors_text z h) rings_text (told c.args.output.now) (told c.put_processors.new.output) (told c.put_rings.new.output) t4 (c.in_ok-put_rings.ensures {u = tt}).ok in
    on_err_then c.put_last.result (λ (p : FailsOf c.args.machine.now last_text (told c.put_rings.new.output) (told c.put_last.new.output)) h st.
    let z = start c.args.machine.now.fabric.tables.board in
    subst (λ t. Fails (told c.args.output.now) t (told c.put_last.new.output))
    (sym (last_parts (first_text z h ++ sources_text z h ++ queues_text z h ++ processors_text z h ++ rings_text z h) (flight_line (length (flight z h))) (notices_line (all_outstanding z h)) done_line))
    (fails_parts c.args.machine.now (λ z h. first_text z h ++ sources_text z h ++ queues_text z h ++ processors_text z h ++ rings_text z h) last_text (told c.args.output.now) (told c.put_rings.new.output) (told c.put_last.new.output) (omega (arith, c.put_end.ensures.count, c.put_sources.ensures.count, c.put_queues.ensures.count, c.put_processors.ensures.count, c.put_rings.ensures.count)) t5 p h st)) c.put_last.ensures.err
