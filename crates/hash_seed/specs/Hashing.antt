-- How a seed begins a hash.
use Rattle.std.specs.Prelude.{ℕ, List}
use Rattle.std.specs.Hash.FoldHasher as folding
use Rattle.hash_seed.specs.declared.seed.Seed.{Seed}
use Rattle.hash_seed.specs.declared.seeded_hasher.SeededHasher.{SeededHasher}

-- the hasher that has taken the bytes of a seed, and no key
abbrev pub started : List ℕ → SeededHasher
started seed = record { fold = folding.write folding.initial seed; seed = seed }

-- the seed of these bytes
abbrev pub seed_of : List ℕ → Seed
seed_of bytes = record { start = started bytes }
