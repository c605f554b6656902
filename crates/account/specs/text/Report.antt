-- The lines of a report.
use Rattle.std.specs.Prelude.{ℕ, ◌==◌, ◌&&◌, Bool, not, if◌then◌else◌, List, [], ◌++◌, codes, decimal}
use Rattle.xv_model.specs.declared.outcomes.Phase.{Phase}
use Rattle.xv_model.specs.end.Flags.{has_bit}
use Rattle.account.specs.text.Numbers.{pair_text, hex, number_line}
use Rattle.account.specs.text.Operations.{flags_text}
use Rattle.account.specs.text.Outcomes.{phase_text}

-- how many entries there are
abbrev pub end_line : ℕ → List ℕ
end_line n = number_line (codes "end ") n

-- whether a source is off, not asserted and has never forwarded
abbrev pub is_unused_source : ℕ → Bool → ℕ → Bool
is_unused_source q asserted forwards = (q == 1) && ((forwards == 0) && not asserted)

-- source s: its pair, whether it is asserted, and its forwards and routes; none where it is unused
abbrev pub source_line : ℕ → ℕ → Bool → ℕ → ℕ → List ℕ
source_line s q asserted forwards routes =
    if is_unused_source q asserted forwards then []
    else codes "source " ++ decimal s ++ codes " " ++ pair_text q ++ codes " " ++ decimal forwards
    ++ codes " " ++ decimal routes ++ (if asserted then codes " asserted\n" else codes "\n")

-- END e: its flags, how many entries of its queue were written and taken, and ESn and ESe; none where it
-- isn't valid
abbrev pub queue_line : ℕ → ℕ → ℕ → ℕ → ℕ → ℕ → List ℕ
queue_line e flags written taken esn ese =
    if not (has_bit flags 1) then []
    else codes "queue " ++ decimal e ++ codes " " ++ flags_text flags ++ codes " " ++ decimal written
    ++ codes " " ++ decimal taken ++ codes " " ++ pair_text esn ++ codes " " ++ pair_text ese ++ codes "\n"

-- processor v: where its context is, its saved CPPR and IPB, and its backlog
abbrev pub processor_line : ℕ → Phase → ℕ → ℕ → ℕ → List ℕ
processor_line v phase cppr ipb backlog =
    codes "processor " ++ decimal v ++ codes " " ++ phase_text phase ++ codes " " ++ hex cppr
    ++ codes " " ++ hex ipb ++ codes " " ++ hex backlog ++ codes "\n"

-- the ring of thread t: NSR, CPPR, IPB, PIPR and the CAM word
abbrev pub ring_line : ℕ → ℕ → ℕ → ℕ → ℕ → ℕ → List ℕ
ring_line t nsr cppr ipb pipr cam =
    codes "ring " ++ decimal t ++ codes " " ++ hex nsr ++ codes " " ++ hex cppr ++ codes " " ++ hex ipb
    ++ codes " " ++ hex pipr ++ codes " " ++ hex cam ++ codes "\n"

-- how many messages are in flight
abbrev pub flight_line : ℕ → List ℕ
flight_line n = number_line (codes "flight ") n

-- how many notices are outstanding
abbrev pub notices_line : ℕ → List ℕ
notices_line n = number_line (codes "notices ") n

-- the last line
abbrev pub done_line : List ℕ
done_line = codes "done\n"
