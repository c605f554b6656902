-- The numerals of the limits, for tactics that read no name.
use Rattle.std.proofs.Common.{◌≡◌, refl}
use Rattle.xv_base.specs.Limits.{most_sources, most_processors, most_threads, most_actors, most_ram_mib, ends_per_processor, most_ranges, most_messages, longest_line, byte_limit, most_forwards, most_entries}

pub most_sources-is : most_sources ≡ 8192
most_sources-is = refl

pub most_processors-is : most_processors ≡ 64
most_processors-is = refl

pub most_threads-is : most_threads ≡ 32
most_threads-is = refl

pub most_actors-is : most_actors ≡ 16
most_actors-is = refl

pub most_ram_mib-is : most_ram_mib ≡ 64
most_ram_mib-is = refl

pub ends_per_processor-is : ends_per_processor ≡ 8
ends_per_processor-is = refl

pub most_ranges-is : most_ranges ≡ 16
most_ranges-is = refl

pub most_messages-is : most_messages ≡ 4096
most_messages-is = refl

pub longest_line-is : longest_line ≡ 256
longest_line-is = refl

pub byte_limit-is : byte_limit ≡ 16777216
byte_limit-is = refl

pub most_forwards-is : most_forwards ≡ 2305843009213693951
most_forwards-is = refl

pub most_entries-is : most_entries ≡ 4611686018427387903
most_entries-is = refl
