-- What stands in the fake inputs.
use Rattle.std.specs.Prelude.{◌<◌, ◌≤◌, length, drop, map}
use Rattle.std.specs.Option.{option_map}
use Rattle.elem.specs.declared.memory.MemInputs.TheInside.{Inside}
use Rattle.elem.specs.Memory.{Supply}
use Rattle.elem.specs.MemoryFiles.{IsSource, source_bytes, named}

abbrev pub supply : Inside → Supply
supply m = record {
  standard = m.standard.items;
  files = map named m.files.items;
  left = drop m.at (source_bytes m.standard.items (map named m.files.items) m.source);
  given = m.given;
  open_faults = m.open_faults;
  read_faults = m.read_faults;
  failed_path = option_map (λ path. path.items) m.failed_path;
  opens = m.opens;
  reads = m.reads;
  failing_opens = m.failing_opens.items;
  failing_reads = m.failing_reads.items;
  most = m.most;
}

pub record IsReady (m : Inside) : Type 0 where
  pub source : IsSource (length m.files.items) m.source
  pub within : m.at ≤ length (source_bytes m.standard.items (map named m.files.items) m.source)
  pub most : 0 < m.most
