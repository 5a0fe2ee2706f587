pub mod Reading  -- Read, Record and Check
pub mod Promises  -- two calls
pub mod TicketPromises  -- a call and its ticket
pub mod Removing  -- Remove, alone and beside other calls
pub mod Forming  -- Standard, alone and beside other calls
pub mod Twinning  -- a sheet and its twin of the second mark
