pub mod MembersAre
