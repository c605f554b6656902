use Rattle.std.proofs.Common.{◌≡◌, rules, sym, ◌∙◌, ap, to_z, of_z, w32}
use Rattle.xv_model.specs.call.Checks.{code_of}
use Rattle.xv_model.specs.device.Checks.{setting_checks}
use Rattle.kvm_device.proofs.attributes.set.Goals as goal

pub returns-in-NrServers-clause-code : goal.returns-in-NrServers-clause-code
returns-in-NrServers-clause-code c = λ z h st.
    let code : to_z w32 (of_z w32 c.set_nr_servers.result) ≡ c.set_nr_servers.result = search rules in
    code ∙ c.set_nr_servers.ensures.code z h st.board st.connected ∙ ap (λ m. code_of (setting_checks z h m)) (sym c.in-NrServers.is)
