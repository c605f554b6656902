use Rattle.std.proofs.Common.{◌≡◌, rules}
use Rattle.xv_model.specs.declared.operations.EndConfig.{EndConfig}
use Rattle.xv_model.specs.end.Descriptors.{config_told}
use Rattle.hint_calls.proofs.Told.{told_is_valid}
use Rattle.hint_calls.proofs.queues.config_told.Goals as goal

pub returns-clause-valid : goal.returns-clause-valid
returns-clause-valid c =
    let args = c.args.args.now in
    let config : EndConfig = record {
      flags = c.flags_told.result;
      vp = args.target;
      priority = args.priority;
      qaddr = args.address;
      qshift = args.size;
      start = 0;
      esc = 0;
      esc_eisn = 0;
    } in
    let told : config ≡ config_told args = search rules in
    told_is_valid c.args.board.now args config told c.requires.accepted
