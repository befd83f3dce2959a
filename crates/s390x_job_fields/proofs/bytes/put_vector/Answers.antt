use Rattle.std.proofs.Common.{rules}
use Rattle.s390x_job_fields.specs.Bytes.{vector_text}
use Rattle.s390x_job_fields.proofs.bytes.put_vector.Goals as goal

pub returns : goal.returns
unfolding vector_text
returns c = search rules
