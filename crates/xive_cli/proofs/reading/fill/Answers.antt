use Rattle.std.proofs.Common.{refl}
use Rattle.xive_cli.proofs.Going.{goes_by_reading}
use Rattle.xive_cli.proofs.reading.fill.Goals as goal

pub returns-in-Ok-clause-fills : goal.returns-in-Ok-clause-fills
returns-in-Ok-clause-fills g c =
    let e = c.in-Ok.ensures {u = tt} in
    record {
      goes = goes_by_reading _ _ e.reads refl c.fill.ensures.given c.requires.waits.ended;
      parser = refl;
      given = c.fill.ensures.given;
      progress = e.progress;
    }

pub returns-in-Err-clause-stop : goal.returns-in-Err-clause-stop
returns-in-Err-clause-stop g c =
    let e = c.in-Err.ensures {u = tt} in
    (refl, record { failed = e.err; reader = e.unchanged; parser = refl; left = e.keeps })
