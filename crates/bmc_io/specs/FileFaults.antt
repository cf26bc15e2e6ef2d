-- The fault of a file that an error of the standard library tells.
use Rattle.std.specs.declared.io.ErrorKind.{ErrorKind}
use Rattle.std.specs.declared.io.ErrorKind.TheVariants as kinds
use Rattle.bmc_io.specs.declared.files.FileFault.{FileFault}
use Rattle.bmc_io.specs.declared.files.FileFault.TheVariants.{Failed, OutOfMemory}

-- want of memory stays what it is, and any other error is a fault of the outside
abbrev pub fault_of : ErrorKind → FileFault
fault_of kinds.OutOfMemory = OutOfMemory
fault_of kind = Failed
