-- Errors that come through a `?`.
use Rattle.std.proofs.Common.{◌≡◌, Result, Ok, Err, IfErr, sym, subst}
use Rattle.std.specs.Result.{IsErrAnd}
use Rattle.xive_cli.specs.declared.stop.Stop.{Stop}

-- an error that came through a `?` is this stop
pub at_stop : {T : Type 0} (r : Result T Stop) (P : Stop → Type 0) (s : Stop) → IsErrAnd r (λ e. e ≡ s) → P s → IfErr r P
at_stop (Ok x) P s e p = tt
at_stop (Err stop) P s e p = subst P (sym e) p

-- an error that is passed on
pub at_err : {T : Type 0} (r : Result T Stop) (P : Stop → Type 0) (s : Stop) → r ≡ Err s → P s → IfErr r P
at_err r P s e p = subst (λ v. IfErr v P) (sym e) p
