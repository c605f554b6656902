-- What an account gives for what a machine shows.
use Rattle.std.specs.Prelude.{ℕ, List}
use Rattle.xv_model.specs.declared.entries.Entry.{Entry}
use Rattle.xv_model.specs.account.Start.{Start}
use Rattle.xv_model.specs.source.Pairs.{pq, asserted}
use Rattle.xv_model.specs.source.Notices.{forwards, routes}
use Rattle.machine.specs.declared.views.SourceView.{SourceView}

abbrev pub source_view : Start → List Entry → ℕ → SourceView
source_view z h s = record {
  pq = pq z h s;
  asserted = asserted z h s;
  forwards = forwards z h s;
  routes = routes z h s;
}
