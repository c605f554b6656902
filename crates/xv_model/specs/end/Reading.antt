-- What was read of the queue of an END, and what its reader finds next (Linux's arch/powerpc/sysdev/xive/common.c, xive_read_eq).
use Rattle.std.specs.Prelude.{ℕ, ◌==◌, ◌+◌, ◌^◌, ◌/◌, ◌%◌, ◌&&◌, if◌then◌else◌, List, [], ◌∷◌, ◌++◌, length}
use Rattle.std.specs.Option.{option_map_or}
use Rattle.xv_model.specs.declared.operations.EndConfig.{EndConfig}
use Rattle.xv_model.specs.declared.operations.Op.{Op}
use Rattle.xv_model.specs.declared.operations.Op.TheVariants as op
use Rattle.xv_model.specs.declared.outcomes.Outcome.{Outcome}
use Rattle.xv_model.specs.declared.outcomes.Outcome.TheVariants as out
use Rattle.xv_model.specs.declared.entries.Entry.{Entry}
use Rattle.xv_model.specs.account.Start.{Start}
use Rattle.xv_model.specs.end.Flags.{is_valid, enqueues}
use Rattle.xv_model.specs.end.Descriptors.{config_by, end_config, until_config}
use Rattle.xv_model.specs.end.Memory.{place, generation, word_at}

-- the payload that an entry took from the queue of e, if it took one
abbrev pub item_in : Op → Outcome → ℕ → List ℕ
item_in (op.Read r) (out.Item payload) e = if r == e then payload ∷ [] else []
item_in _ _ e = []

-- the payloads that were taken from the queue of e since its last configuration
abbrev pub taken : List Entry → ℕ → List ℕ
taken [] e = []
taken (x ∷ h) e = option_map_or (λ c. []) (config_by e x) (taken h e ++ item_in x.op x.outcome e)

-- how many entries of e were taken since its last configuration
abbrev pub taken_count : Start → List Entry → ℕ → ℕ
taken_count z h e = length (taken h e) + until_config (z.taken_count e) h e

-- the top bit of a word
abbrev pub top_bit : ℕ → ℕ
top_bit word = word / 2 ^ 31

-- what a reader answers that finds a word where the entry of a number belongs: it is that entry where its top bit is the number's generation
abbrev pub read_by : EndConfig → ℕ → ℕ → Outcome
read_by c j word = if top_bit word == generation c j then out.Item (word % 2 ^ 31) else out.Empty

-- what a read of the queue of e answers
abbrev pub read_outcome : Start → List Entry → ℕ → Outcome
read_outcome z h e =
    let c = end_config z h e in
    let j = c.start + taken_count z h e in
    if is_valid c && enqueues c then read_by c j (word_at z h (place c j)) else out.NoQueue
