-- The fault of a text that code speaks of.
use Rattle.std.specs.Prelude.{ℕ, List}
use Rattle.cert_spec.specs.Grammar.{bad_line, ended, IsTextFault}
use Rattle.cert_scan.specs.declared.items.Fault as scan
use Rattle.cert_format.specs.declared.reader.CertFault.{CertFault}
use Rattle.cert_format.specs.declared.reader.CertFault.TheVariants.{BadLine, Ended, OutOfMemory}

-- the bytes have the reported fault; where memory ran out, nothing is said of the bytes
abbrev pub ToldFault : List ℕ → CertFault → Type 0
ToldFault bytes (BadLine line) = IsTextFault bytes (bad_line line)
ToldFault bytes (Ended line) = IsTextFault bytes (ended line)
ToldFault bytes OutOfMemory = Unit {0}

-- the fault that a scan finds
abbrev pub told_of : scan.Fault → CertFault
told_of (scan.TheVariants.BadLine line) = BadLine line
told_of (scan.TheVariants.Ended line) = Ended line
