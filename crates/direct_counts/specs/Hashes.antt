-- What a site is hashed by: all its numbers.
use Rattle.std.specs.Prelude.{ℕ, List, ◌++◌}
use Rattle.std.specs.Hash as fed
use Rattle.sample_key.specs.Events.{code_of}
use Rattle.direct_counts.specs.declared.sites.Site.{Site}
use Rattle.direct_counts.specs.declared.sites.Site.TheVariants.{Known, Unknown}

abbrev pub hash_input_of : Site → List (List ℕ)
hash_input_of (Known epoch rank event offset) = fed.u32 epoch ++ fed.usize rank ++ fed.u8 (code_of event) ++ fed.u64 offset
hash_input_of (Unknown epoch event pc) = fed.u32 epoch ++ fed.u8 (code_of event) ++ fed.u64 pc
