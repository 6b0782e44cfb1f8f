-- The message of each status is what is written.
use Rattle.spectro_run.proofs.message.write_message.Goals as goal

pub returns-in-ReadFault-clause-bytes : goal.returns-in-ReadFault-clause-bytes
returns-in-ReadFault-clause-bytes g c = rw c.in-ReadFault.is c.write_whole-in-ReadFault.ensures.bytes

pub returns-in-WriteFault-clause-bytes : goal.returns-in-WriteFault-clause-bytes
returns-in-WriteFault-clause-bytes g c = rw c.in-WriteFault.is c.write_whole-in-WriteFault.ensures.bytes

pub returns-in-OutOfMemory-clause-bytes : goal.returns-in-OutOfMemory-clause-bytes
returns-in-OutOfMemory-clause-bytes g c = rw c.in-OutOfMemory.is c.write_whole-in-OutOfMemory.ensures.bytes
