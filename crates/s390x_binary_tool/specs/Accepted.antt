-- Inputs that nothing keeps from being done.
use Rattle.std.specs.Prelude.{◌≡◌, ◌≤◌, ℕ, List, [], None, length, map}
use Rattle.hex.specs.Hex.{IsBytes}
use Rattle.s390x_buffer.specs.declared.entries.MachBufferFinalized.{MachBufferFinalized}
use Rattle.s390x_bundle.specs.Bundled.{duplicate_of}
use Rattle.s390x_bundle.specs.Emitted.{first_refused}
use Rattle.s390x_job_bundle.specs.Text.{AreFunctions, text_of_functions}
use Rattle.s390x_job_bundle.specs.declared.named_job.NamedJob.{NamedJob}
use Rattle.s390x_disassembler.specs.Assembly.{IsSource}
use Rattle.s390x_elf.specs.Causes.{object_cause}
use Rattle.s390x_elf.specs.Members.{members_cause}
use Rattle.s390x_elf.specs.declared.members.ObjectMember.{ObjectMember}
use Rattle.s390x_job.specs.Jobs.{IsJob, text_of_job}
use Rattle.s390x_job.specs.declared.job.Job.{Job}
use Rattle.s390x_binary_tool.specs.Words.{object_name}
use Rattle.s390x_binary_tool.specs.declared.words.Command.{Command}
use Rattle.s390x_binary_tool.specs.declared.words.Command.TheVariants.{Refusal, Verify, Disassemble, Assemble, Listing, Object, Objects}
use Rattle.s390x_tool.specs.Answers.{IsCodeOfJob, IsImageAt, job_cause, link_cause_of}
use Rattle.s390x_tool.specs.Ends.{most_bytes}
use Rattle.s390x_bundle.specs.Members.{member_of}
use Rattle.s390x_binary_tool.specs.ImageText.{IsImageText}
use Rattle.s390x_binary_tool.specs.Objects.{AreObjectMembers}
use Rattle.s390x_binary_tool.specs.Verify.{IsVerifyText}

-- the input is the text of a job, which emission has no cause to refuse
pub record IsValidJob (input : List ℕ) : Type 0 where
  pub job : Job
  pub is : IsJob job
  pub spelled : text_of_job job ≡ input
  pub valid : job_cause job ≡ None

-- the input is the text of a job, and behind it stands its image at the base, as the first program writes it
pub record IsJobWithImage (base : ℕ) (input : List ℕ) : Type 0 where
  pub job : Job
  pub given : List ℕ
  pub are : IsVerifyText input job given
  pub image : IsImageAt base job given

-- the input is the text of a job, which emission has no cause to refuse, nor linking at the base
pub record IsLinkableJob (base : ℕ) (input : List ℕ) : Type 0 where
  pub valid : IsValidJob input
  pub links : (code : MachBufferFinalized) → IsCodeOfJob valid.job code → link_cause_of base valid.job code ≡ None

-- code in lines of hex digits
pub record IsHexCode (input : List ℕ) : Type 0 where
  pub code : List ℕ
  pub hex : IsImageText input code

-- the input is a source of some code at the base
pub record IsSomeSource (base : ℕ) (input : List ℕ) : Type 0 where
  pub code : List ℕ
  pub bytes : IsBytes code
  pub is : IsSource base code input

-- the input is the text of a job, which emission has no cause to refuse, and nothing keeps its code from being made an object with this name
pub record IsObjectJob (name : List ℕ) (input : List ℕ) : Type 0 where
  pub valid : IsValidJob input
  pub named : (code : MachBufferFinalized) → IsCodeOfJob valid.job code → object_cause name code ≡ None

-- the input is the text of functions, no two of a name, none of which emission has a cause to refuse, and nothing keeps their codes from being made an object
pub record AreObjectFunctions (input : List ℕ) : Type 0 where
  pub functions : List NamedJob
  pub are : AreFunctions functions
  pub spelled : text_of_functions functions ≡ input
  pub names : duplicate_of (map member_of functions) ≡ None
  pub valid : first_refused (map member_of functions) ≡ None
  pub accepted : (objects : List ObjectMember) → AreObjectMembers (map member_of functions) objects → members_cause [] objects ≡ None

-- nothing keeps the command, which these words are, from being done with the input
abbrev pub IsUnrefused : Command → (words : List (List ℕ)) → (input : List ℕ) → Type 0
IsUnrefused Refusal words input = IsValidJob input
IsUnrefused (Verify base) words input = IsJobWithImage base input
IsUnrefused (Disassemble base) words input = IsHexCode input
IsUnrefused (Assemble base) words input = IsSomeSource base input
IsUnrefused (Listing base) words input = IsLinkableJob base input
IsUnrefused Object words input = IsObjectJob (object_name words) input
IsUnrefused Objects words input = AreObjectFunctions input

-- the input isn't too long, and nothing keeps the command, which these words are, from being done with it
pub record IsAccepted (command : Command) (words : List (List ℕ)) (input : List ℕ) : Type 0 where
  pub short : length input ≤ most_bytes
  pub unrefused : IsUnrefused command words input
